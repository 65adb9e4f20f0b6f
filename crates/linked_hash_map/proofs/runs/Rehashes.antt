-- The nodes that runs rehash: a run that goes on by one command.
use Rattle.linked_hash_map.proofs.Names.{List, [], append_assoc, ap₂, length, sym, ◌++◌, ◌∙◌, ◌∷◌, ◌≡◌, LinkedMap, rechained_after}
use Rattle.linked_hash_map.proofs.Names.{rechained_after_all, Command, Reply}

module _ {K V S : Type 0} where
  -- whatever commands come after these, they go on from the counts of the map that these leave
  pub record GoesOn (old : LinkedMap K V S) (commands : List (Command K V)) (replies : List (Reply K V)) (now : LinkedMap K V S) :
      Type 0 where
    pub from : (more : List (Command K V)) (further : List (Reply K V))
        → rechained_after_all old.rechained (length old.pairs) old.capacity (commands ++ more) (replies ++ further)
        ≡ rechained_after_all now.rechained (length now.pairs) now.capacity more further

  pub GoesOn-snoc : {old now new : LinkedMap K V S} {commands : List (Command K V)} {replies : List (Reply K V)}
      (command : Command K V) (reply : Reply K V) → GoesOn old commands replies now
      → new.rechained ≡ rechained_after command now.rechained (length now.pairs) now.capacity reply.capacity
      → reply.len ≡ length new.pairs → reply.capacity ≡ new.capacity
      → GoesOn old (commands ++ command ∷ []) (replies ++ reply ∷ []) new
  GoesOn-snoc {old} {now} {new} {commands} {replies} command reply goes counted len capacity = record {
    from = λ more further.
        ap₂ (rechained_after_all old.rechained (length old.pairs) old.capacity)
        (append_assoc commands (command ∷ []) more) (append_assoc replies (reply ∷ []) further)
        ∙ goes.from (command ∷ more) (reply ∷ further)
        ∙ (λ i. rechained_after_all (sym counted i) (len i) (capacity i) more further);
  }
