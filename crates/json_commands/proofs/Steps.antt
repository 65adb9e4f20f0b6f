-- Texts and edits, one after another.
use Rattle.std.proofs.Common.{◌≡◌, ℕ, suc, ◌+◌, ◌<◌, List, [], ◌∷◌, ◌++◌, drop, get_or, length, map, Option, Some, None, Result}
use Rattle.std.proofs.Common.{Ok, Err, String, string_bytes, refl, sym, ap, ◌∙◌, append_assoc, add-one, drop-cons}
use Rattle.std.proofs.lemmas.List.{map-append}
use Rattle.std.specs.declared.alloc.Global.{Global}
use Rattle.std.specs.Prelude.{IfSome}
use Rattle.json_commands.specs.Commands.{Edit, edit, edit_of}
use Rattle.json_commands.specs.Runs.{Fault, wrong, then, edits_of, fault}
use Rattle.json_commands.specs.declared.stop.Stop.{Stop}
use Rattle.json_commands.specs.declared.command.Command.{Command}

-- the edits of the texts so far, and then those of the rest
abbrev pub edits_behind : List Edit → ℕ → List (List ℕ) → Result (List Edit) Fault
edits_behind done n texts = then (λ fault. fault) (λ fs. Ok (done ++ fs)) (edits_of n texts)

pub edits_behind-some : (done : List Edit) (n : ℕ) (text : List ℕ) (texts : List (List ℕ)) (f : Edit) → edit_of text ≡ Some f
    → edits_behind done n (text ∷ texts) ≡ edits_behind (done ++ f ∷ []) (suc n) texts
edits_behind-some done n text texts f is = rw is (by_rest (edits_of (suc n) texts))
  where
    by_rest : (r : Result (List Edit) Fault)
        → then (λ (fault : Fault). fault) (λ fs. Ok (done ++ fs)) (then (λ (fault : Fault). fault) (λ fs. Ok (f ∷ fs)) r)
        ≡ then (λ (fault : Fault). fault) (λ fs. Ok ((done ++ f ∷ []) ++ fs)) r
    by_rest (Ok fs) = ap Ok (sym (append_assoc done (f ∷ []) fs))
    by_rest (Err fault) = refl

pub edits_behind-none : (done : List Edit) (n : ℕ) (text : List ℕ) (texts : List (List ℕ)) → edit_of text ≡ None
    → edits_behind done n (text ∷ texts) ≡ Err (wrong n)
edits_behind-none done n text texts is = rw is refl

-- the text at an index
module _ (texts : List (String Global)) (i : ℕ) (text : String Global) (commands : List Command) (whole : Result (List Edit) Fault)
    (less : i < length texts) (is : text ≡ get_or texts i text)
    (so_far : whole ≡ edits_behind (map edit commands) (suc i) (map string_bytes (drop i texts))) where
  behind-cut : whole ≡ edits_behind (map edit commands) (suc i) (string_bytes text ∷ map string_bytes (drop (suc i) texts))
  behind-cut = so_far ∙ ap (λ ts. edits_behind (map edit commands) (suc i) (map string_bytes ts))
      (drop-cons texts i text less ∙ ap (λ t. t ∷ drop (suc i) texts) (sym is))

  pub edits_behind-said : (command : Command) → edit_of (string_bytes text) ≡ Some (edit command)
      → whole ≡ edits_behind (map edit (commands ++ command ∷ [])) (suc (i + 1)) (map string_bytes (drop (i + 1) texts))
  edits_behind-said command says =
      rw (add-one) (behind-cut
      ∙ edits_behind-some (map edit commands) (suc i) (string_bytes text) (map string_bytes (drop (suc i) texts)) (edit command) says
      ∙ ap (λ done. edits_behind done (suc (suc i)) (map string_bytes (drop (suc i) texts)))
      (sym (map-append edit commands (command ∷ []))))

  pub edits_behind-fault : (stop : Stop)
      → IfSome (fault stop) (λ error. (error ≡ wrong (i + 1)) × (edit_of (string_bytes text) ≡ None))
      → IfSome (fault stop) (λ error. whole ≡ Err error)
  edits_behind-fault stop says = by_fault (fault stop) says
    where
      by_fault : (o : Option Fault) → IfSome o (λ error. (error ≡ wrong (i + 1)) × (edit_of (string_bytes text) ≡ None))
          → IfSome o (λ error. whole ≡ Err error)
      by_fault None says = tt
      by_fault (Some error) says =
          behind-cut ∙ edits_behind-none (map edit commands) (suc i) (string_bytes text) (map string_bytes (drop (suc i) texts)) says.1
          ∙ ap Err (ap wrong (sym (add-one i)) ∙ sym says.0)
