use Rattle.frag_wire.proofs.ReadingLemmas.{read-spells, read-fault, read-spelled, read-refused}
use Rattle.frag_wire.proofs.reading.read.Goals as goal

pub returns-clause-spells : goal.returns-clause-spells
returns-clause-spells c = read-spells _ _ _ _ c.requires.side c.read_in.ensures

pub returns-clause-fault : goal.returns-clause-fault
returns-clause-fault c = read-fault _ _ _ _ c.requires.side c.read_in.ensures

pub returns-clause-spelled : goal.returns-clause-spelled
returns-clause-spelled c = read-spelled _ _ _ _ c.read_in.ensures

pub returns-clause-refused : goal.returns-clause-refused
returns-clause-refused c = read-refused _ _ _ _ c.read_in.ensures
