use Rattle.std.proofs.Common.{rules}
use Rattle.gw_top.specs.Answers.{Call, call}
use Rattle.gw_top.specs.Words.{reads_input}
use Rattle.gw_top.proofs.InputLemmas.{input-given}
use Rattle.gw_top.proofs.RunLemmas.{completes}
use Rattle.gw_top.proofs.command.run.Goals as goal

-- the words name a command, which is done
pub returns-in-Ok-write_all-clause-answers : goal.returns-in-Ok-write_all-clause-answers
returns-in-Ok-write_all-clause-answers g c =
    let this : Call =
    call c.args.words.now (g.S.Source.state c.args.input.now)
    (g.S.Source.state c.input_of.new.input) (g.K.Sink.state c.args.output.now)
    (g.K.Sink.state c.write_all.new.sink) in
    let text = c.in-Ok-input_of.text in
    let input =
    input-given (reads_input c.in-Ok.command) this text c.in-Ok-input_of.ensures.gives in
    record {
      command = c.in-Ok.command;
      named = search rules;
      completes =
          completes c.in-Ok.command this text.items c.in-Ok-output_for.made input (search rules)
          (search rules) (search rules) (search rules);
    }
