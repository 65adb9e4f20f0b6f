use Rattle.std.proofs.Common.{◌≡◌, [], length, drop, Some, sym, ap, ◌∙◌, arith, eqb-true, eq-eqb, length-drop}
use Rattle.std.proofs.lemmas.List.{drop_all}
use Rattle.ordered_json.specs.Pointers.{unescape}
use Rattle.ordered_json.proofs.pointer.is_name.Goals as goal

pub returns : goal.returns
returns c =
    let l = c.loop-at in let name = c.args.name.now in
    let none : unescape (drop l.at c.args.part.now) ≡ Some [] = ap unescape (drop_all l.at c.args.part.now c.loop-at-test.false) in (
      λ all. l.invariant.0.1 (none ∙ ap Some (sym (drop_all l.matched name (omega (arith, eqb-true _ _ all))))),
      λ same.
          let left : [] ≡ drop l.matched name = cc (none, l.invariant.0.0 same) in
          eq-eqb _ _ (omega (arith, ap length left, length-drop l.matched name, l.invariant.2)),
    )
