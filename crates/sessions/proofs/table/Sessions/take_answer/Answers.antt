use Rattle.std.proofs.Common.{refl, ap, sym, ◌∙◌, true}
use Rattle.schc_ids.specs.declared.fragments.Side.TheVariants as side
use Rattle.sessions.specs.Data.{out_key}
use Rattle.sessions.proofs.ReadingLemmas.{read-is, is_answer}
use Rattle.sessions.proofs.CallLemmas.{answer-ok, answer-err}
use Rattle.sessions.proofs.table.Sessions.take_answer.Goals as goal

pub hear-requires : goal.hear-requires
hear-requires c =
    is_answer c.args.self.now.role c.args.params.now c.args.bytes.now c.in-Ok.message c.read.result
    c.in-Ok.is c.read.ensures.spells c.requires

pub returns-in-Ok : goal.returns-in-Ok
returns-in-Ok c =
    let params = c.args.params.now in
    let bytes = c.args.bytes.now in
    let read =
    read-is params side.Answers bytes c.read.result c.read.ensures.spells c.read.ensures.fault
    in
    record {
      step = answer-ok c.args.self.now (c.hear.new.self, c.hear.result)
          (out_key c.args.self.now.role true) params bytes c.in-Ok.message c.read.result read
          c.in-Ok.is c.hear.ensures.step;
      role = c.hear.ensures.role;
      params = c.hear.ensures.params;
    }

pub returns-in-Err : goal.returns-in-Err
returns-in-Err c =
    let params = c.args.params.now in
    let bytes = c.args.bytes.now in
    let read =
    read-is params side.Answers bytes c.read.result c.read.ensures.spells c.read.ensures.fault
    in
    record {
      step =
          answer-err c.args.self.now (out_key c.args.self.now.role true) params bytes c.in-Err.fault
          c.read.result read c.in-Err.is;
      role = refl;
      params = refl;
    }
