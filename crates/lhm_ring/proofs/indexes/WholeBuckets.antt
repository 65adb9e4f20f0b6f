-- What the buckets have, chains and bits together, once a node is put in, moved or removed.
use Rattle.lhm_ring.proofs.Names.{BucketState, CoversAll, HasChains, HasNoChain, Held, HoldsOthers, Indexes, IsChain, IsHeld, IsRearranged}
use Rattle.lhm_ring.proofs.Names.{IsSome, List, None, Option, Ptr, PutsIn, SetsBit, Some, Spot, [], ap, arith, count_by, entries, eq-eqb}
use Rattle.lhm_ring.proofs.Names.{filter, get_or, get_or-set_same, is_in, is_some, length, length-filter, length-set, may_contain, mod-lt}
use Rattle.lhm_ring.proofs.Names.{nil_from_length, refl, set, spot, spots, subst, sym, true, ℕ, ◌%◌, ◌++◌, ◌<◌, ◌∙◌, ◌∷◌, ◌≡◌}
use Rattle.lhm_ring.proofs.indexes.Filters.{CoversAll-cleared, CoversAll-entries, CoversAll-more, CoversAll-others, CoversAll-put}
use Rattle.lhm_ring.proofs.indexes.WholeIndex.{HasChains-set, SameOthers-PutsIn}
use Rattle.lhm_ring.proofs.indexes.{Chains.none-IsChain, IndexMoves.HasChains-rearranged, IndexTakes.HasOtherChains}
use Rattle.lhm_ring.proofs.indexes.{Filters.SetsBit-keeps, Filters.may_contain-set_other, Spots.PutsIn-spots, Spots.PutsIn-spots_of}
use Rattle.lhm_ring.proofs.lists.Rearranged.{IsRearranged-more_middle, filter-PutsIn, length-IsRearranged}

pub Indexes-none : (i : BucketState) → HasNoChain i → length i.words ≡ length i.heads → Indexes i []
unfolding CoversAll
Indexes-none i empty count = record {
  chains = record { chains = λ b l. record { chain = []; linked = empty b l; holds = λ p. refl }; none = λ z. refl };
  covers = refl;
  count = count;
}

pub HasNoChain-indexed : (i : BucketState) → Indexes i [] → HasNoChain i
HasNoChain-indexed i h b l =
    let c = h.chains.chains b l in
    subst (IsChain (get_or i.heads b None)) (nil_from_length c.chain (length-IsRearranged c.chain [] c.holds)) c.linked

pub Indexes-put : {old : BucketState} (new : BucketState) (s : Spot) {xs : List Spot} (ys : List Spot) → Indexes old xs
    → 0 < length old.heads → s.link ≡ get_or old.heads (s.hash % length old.heads) None → PutsIn s xs ys
    → new.heads ≡ set old.heads (s.hash % length old.heads) (Some s.at) → SetsBit old.words new.words s.hash → Indexes new ys
Indexes-put {old} new s {xs} ys h some link p heads words =
    let n = length old.heads in
    let b = s.hash % n in
    let q = is_in n b in
    let t : q s ≡ true = eq-eqb b b refl in
    let k = h.chains.chains b (mod-lt s.hash some) in
    record {
      chains = rw heads (HasChains-set b ys h.chains (mod-lt s.hash some) (SameOthers-PutsIn n b s xs ys t p) (Some s.at) (record {
        chain = s ∷ k.chain;
        linked = (refl, rw link k.linked);
        holds = IsRearranged-more_middle [] s k.chain (filter q xs) (filter q ys) (filter-PutsIn q s xs ys p t) k.holds;
      }));
      covers = CoversAll-put new.words s xs ys p words.set (CoversAll-more old.words new.words (SetsBit-keeps words) xs h.covers);
      count = words.count ∙ h.count ∙ sym (ap length heads ∙ length-set old.heads _ _);
    }

-- a node was moved
pub Indexes-moved : {K V : Type 0} (i : BucketState) (before : List (Held (K × V))) (x : Held (K × V)) (after : List (Held (K × V)))
    {moved : List Spot} → PutsIn (spot x) (spots (before ++ after)) moved
    → Indexes i (spots (before ++ x ∷ after)) → Indexes i moved
unfolding CoversAll
Indexes-moved i before x after {moved} puts h =
    let r : IsRearranged (spots (before ++ x ∷ after)) moved = λ p. sym (PutsIn-spots before x after p) ∙ puts p in
    record { chains = HasChains-rearranged i.heads _ moved r h.chains; covers = sym (r _) ∙ h.covers; count = h.count }

-- a bucket without a head has no spot
count_by-no_head : (heads : List (Option Ptr)) (b : ℕ) (xs : List Spot) → HasChains heads xs → b < length heads
    → get_or heads b None ≡ None → count_by (is_in (length heads) b) xs ≡ 0
count_by-no_head heads b xs h within none =
    let c = h.chains b within in
    sym (length-IsRearranged c.chain _ c.holds ∙ length-filter (is_in (length heads) b) xs) ∙ ap length (none-IsChain c.chain none c.linked)

-- the node at p was removed from its chain
module _ {K V : Type 0} {nodes : List (Held (K × V))} {p : Ptr} where
  CoversAll-rest : (words : List ℕ) (h : IsHeld nodes p) → CoversAll words (spots nodes) → CoversAll words (spots (h.before ++ h.after))
  CoversAll-rest words h = CoversAll-others words (spot h.node) _ (spots nodes) (PutsIn-spots_of h.before h.node h.after h.is)

  -- from behind another node: that one has a new chain link
  pub HoldsOthers-next : (old : List (Held (K × V))) (i : BucketState) → Indexes i (spots old) → entries nodes ≡ entries old
      → HasOtherChains i.heads nodes p → HoldsOthers i nodes p
  HoldsOthers-next old i h same w =
      let covers = CoversAll-rest i.words w.held (CoversAll-entries i.words old nodes same h.covers) in
      record { held = w.held; others = record { chains = w.others; covers = covers; count = h.count } }

-- from the head of its bucket, which gets a new head, and no bits if that leads nowhere
module _ (old new : BucketState) (bucket : ℕ) (head : Option Ptr) (within : bucket < length old.heads)
    (heads : new.heads ≡ set old.heads bucket head) (same : IsSome head → new.words ≡ old.words)
    (cleared : head ≡ None → new.words ≡ set old.words bucket 0) (count : length old.words ≡ length old.heads) where
  long : length old.words ≡ length new.heads
  long = count ∙ sym (ap length heads ∙ length-set old.heads bucket head)

  Indexes-head : (xs : List Spot) → HasChains new.heads xs → CoversAll old.words xs → (o : Option Ptr) → head ≡ o → Indexes new xs
  Indexes-head xs w c (Some q) e =
      let keeps = same (ap is_some e) in
      record { chains = w; covers = rw keeps c; count = ap length keeps ∙ long }
  Indexes-head xs w c None e =
      let empty = count_by-no_head new.heads bucket xs w (omega (arith, long, count, within)) (grind (arith, get_or-set_same)) in
      record {
        chains = w;
        covers = CoversAll-cleared old.words new.words (length old.words) bucket
            (λ other away. ap (λ ws. may_contain ws other) (cleared e) ∙ may_contain-set_other old.words bucket 0 other away) xs
            (ap (λ n. count_by (is_in n bucket) xs) long ∙ empty) c;
        count = ap length (cleared e) ∙ length-set old.words bucket 0 ∙ long;
      }

  pub HoldsOthers-head : {K V : Type 0} {nodes : List (Held (K × V))} {p : Ptr} → CoversAll old.words (spots nodes)
      → HasOtherChains new.heads nodes p → HoldsOthers new nodes p
  HoldsOthers-head c w =
      record { held = w.held; others = Indexes-head _ w.others (CoversAll-rest old.words w.held c) head refl }
