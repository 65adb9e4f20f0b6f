use Rattle.uses.proofs.bids.Bids.raise.Goals as goal

pub returns-in-Some-get_mut-clause-others : goal.returns-in-Some-get_mut-clause-others
returns-in-Some-get_mut-clause-others c = c.in-Some-get_mut.ensures.others c.args.amount
