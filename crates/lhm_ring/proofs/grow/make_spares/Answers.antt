use Rattle.lhm_ring.proofs.Names.{IsStacked, ap, arith, refl, row, subst, sym, ℕ, ◌+◌, ◌-◌, ◌<◌, ◌^◌, ◌∙◌, ◌≡◌}
use Rattle.lhm_ring.proofs.{memory.Places.row-less, memory.Places.row-none, rings.Stacking.IsStacked-none, rings.Stacking.IsStacked-push}
use Rattle.lhm_ring.proofs.grow.make_spares.Goals as goal

pub each-init : goal.each-init
each-init g c =
    let none : 0 ≡ c.args.count - c.args.count = omega arith in
    record {
      few = omega arith;
      small = c.requires.small;
      unused = c.requires.unused;
      chunks = refl;
      stacked = subst (λ (n : ℕ). IsStacked c.args.nodes.now.cells c.args.spare n
          c.args.nodes.now.cells c.args.spare) none (IsStacked-none _ _);
    }

pub add-at-requires-clause-unused : goal.add-at-requires-clause-unused
add-at-requires-clause-unused g c = c.each.invariant.unused ∙ row-less c.args.start.ptr c.each.nodes.node_bytes c.each.left c.each-test.true

pub to-first-requires : goal.to-first-requires
to-first-requires g c = c.add-at.ensures.block

pub each-preserved : goal.each-preserved
each-preserved g c =
    let i = c.each.invariant in let one : c.args.count - c.each.left + 1 ≡ c.args.count -
    (c.each.left - 1) = let a = i.few in let b = c.each-test.true in omega arith in
    record {
      few = let a = i.few in omega arith;
      small = subst (λ (n : ℕ). n < 2 ^ 63) (sym c.add-at.ensures.node_bytes) i.small;
      unused = c.add-at.ensures.unused ∙ ap (λ (n : ℕ). row c.args.start.ptr n (c.each.left - 1)) (sym c.add-at.ensures.node_bytes);
      chunks = c.add-at.ensures.chunks ∙ i.chunks;
      stacked = subst (λ (n : ℕ). IsStacked c.args.nodes.now.cells c.args.spare n c.add-at.new.self.cells c.to-first.result) one
          (IsStacked-push _ _ (c.args.count - c.each.left) c.add-at.result c.to-first.result i.stacked c.add-at.ensures.cells
          c.to-first.ensures);
    }

pub returns : goal.returns
returns g c =
    let i = c.each.invariant in let none : c.each.left ≡ 0 = omega (arith, c.each-test.false) in
    let all : c.args.count - c.each.left ≡ c.args.count = omega (arith, none) in
    record {
      stacked = subst (λ (n : ℕ). IsStacked c.args.nodes.now.cells c.args.spare n c.each.nodes.cells c.each.first) all i.stacked;
      unused = i.unused ∙ row-none c.args.start.ptr c.each.nodes.node_bytes c.each.left none;
      chunks = i.chunks;
    }
