-- How many nodes there are after a growth.
use Rattle.lhm_ring.proofs.Names.{arith, least_more, max, nodes_grown, ℕ, ◌+◌, ◌<◌, ◌≡◌, ◌≤◌}

-- as many as are needed were there
pub nodes_grown-enough : (nodes needed least : ℕ) → needed ≤ nodes → nodes_grown nodes needed least ≡ nodes
nodes_grown-enough nodes needed least h = grind arith

-- or there were fewer
pub nodes_grown-fewer : (nodes needed least : ℕ) → nodes < needed → nodes_grown nodes needed least ≡ max needed (nodes + least)
nodes_grown-fewer nodes needed least h = grind arith

-- and no more than are needed are made
pub nodes_grown-exact : (nodes needed count : ℕ) → nodes_grown nodes needed (least_more count nodes 0) ≡ max nodes needed
nodes_grown-exact nodes needed count = grind (arith, nodes_grown-enough, nodes_grown-fewer)
