use Rattle.uses.proofs.stock.Stock.take.Goals as goal

pub returns-in-Some-clause-others : goal.returns-in-Some-clause-others
returns-in-Some-clause-others c = c.in-Some.ensures.others _
