use Rattle.lorawan_profile.specs.Ports.{meaning_of}
use Rattle.lorawan_profile.proofs.PortsLemmas.{IsSent-meaning_of, meaning_of-whole}
use Rattle.lorawan_profile.proofs.ports.meaning.Goals as goal

pub returns-clause-sent : goal.returns-clause-sent
unfolding meaning_of
returns-clause-sent c =
    rw (c.meaning_from.ensures, c.fragments_by.ensures) (IsSent-meaning_of c.args.role c.args.port)

pub returns-clause-whole : goal.returns-clause-whole
unfolding meaning_of
returns-clause-whole c =
    rw (c.meaning_from.ensures, c.fragments_by.ensures) (meaning_of-whole c.args.role c.args.port)
