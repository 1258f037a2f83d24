use Rattle.std.proofs.Common.{refl, ap, sym, ◌∙◌}
use Rattle.schc_ids.specs.declared.fragments.Side.TheVariants as side
use Rattle.sessions.proofs.ReadingLemmas.{read-is}
use Rattle.sessions.proofs.CallLemmas.{fragment-ok, fragment-err}
use Rattle.sessions.proofs.table.Sessions.take_fragment.Goals as goal

-- bytes that are read as a message do what it does to the receiver of the port, and the role and
-- the parameters of the end stay
pub returns-in-Ok : goal.returns-in-Ok
returns-in-Ok c =
    let params = c.args.params.now in
    let bytes = c.args.bytes.now in
    let read =
    read-is params side.Fragments bytes c.read.result c.read.ensures.spells c.read.ensures.fault
    in
    record {
      step = fragment-ok c.args.self.now (c.receive.new.self, c.receive.result) c.args.port params
          c.requires.0 c.is_answered.result bytes c.in-Ok.message c.read.result c.requires.1
          (c.is_answered.ensures c.requires.0 (ap (λ way. way.0) c.requires.1)) read c.in-Ok.is
          c.receive.ensures.step;
      role = c.receive.ensures.role;
      params = c.receive.ensures.params;
    }

-- bytes that are no fragment are refused with the fault of reading them, and nothing changes
pub returns-in-Err : goal.returns-in-Err
returns-in-Err c =
    let params = c.args.params.now in
    let bytes = c.args.bytes.now in
    let read =
    read-is params side.Fragments bytes c.read.result c.read.ensures.spells c.read.ensures.fault
    in
    record {
      step =
          fragment-err c.args.self.now c.args.port params bytes c.in-Err.fault c.read.result read
          c.in-Err.is;
      role = refl;
      params = refl;
    }
