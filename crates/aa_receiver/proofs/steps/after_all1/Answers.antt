use Rattle.aa_receiver.proofs.steps.after_all1.Goals as goal

pub returns-in-Finished-clause-stands : goal.returns-in-Finished-clause-stands
returns-in-Finished-clause-stands c = c.again.ensures.stands c.args.kept.now
