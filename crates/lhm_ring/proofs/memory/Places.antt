-- Where the places of chunks lie.
use Rattle.lhm_ring.proofs.Names.{AreBlocks, Cell, Chunk, InBlock, IsLaid, IsRearranged, List, None, Ptr, [], ap, append_assoc, arith}
use Rattle.lhm_ring.proofs.Names.{block_ptr, chunk, count_by, false, is_block, is_null, is_null_or_block, led_to, length, length-append}
use Rattle.lhm_ring.proofs.Names.{length-map, lt→ltb, nat_lt, next, null_ptr, one_more, place_count, places, pointers, refl, row, subst}
use Rattle.lhm_ring.proofs.Names.{suc, sym, true, zero, ℕ, ◌*◌, ◌++◌, ◌+ₚ◌, ◌+◌, ◌-◌, ◌<◌, ◌^◌, ◌∙◌, ◌∷◌, ◌≡◌}
use Rattle.lhm_ring.proofs.lists.ForAll.{AllByRecursion-left, AllByRecursion-right}
use Rattle.lhm_ring.{proofs.lists.Rearranged.length-IsRearranged, proofs.lists.RearrangedCounts.count_by-append, specs.Links.IsChain}
use Rattle.std.proofs.Flags.{T_true}

pub places-none : (s : ℕ) → IsRearranged [] (places s [])
unfolding places
places-none s p = refl

pub row-none : (p : Ptr) (s n : ℕ) → n ≡ 0 → row p s n ≡ []
unfolding row
row-none p s n e = ap (row p s) e

suc-times : (n s : ℕ) → suc n * s ≡ n * s + s
suc-times n s = ap (λ (k : ℕ). k * s) (sym (one_more n)) ∙ next n s

-- the place behind n others
plus-zero : (p : Ptr) (s : ℕ) → p +ₚ (0 * s) ≡ p
plus-zero (block_ptr b o) s = ap (λ (k : ℕ). block_ptr b k) (omega arith)
plus-zero null_ptr s = refl

plus-plus : (p : Ptr) (s n : ℕ) → (p +ₚ s) +ₚ (n * s) ≡ p +ₚ (suc n * s)
plus-plus (block_ptr b o) s n = ap (λ (k : ℕ). block_ptr b k) (omega (arith, suc-times n s))
plus-plus null_ptr s n = refl

row-suc : (p : Ptr) (s n : ℕ) → row p s (suc n) ≡ row p s n ++ (p +ₚ (n * s)) ∷ []
unfolding row
row-suc p s zero = ap (λ q. q ∷ []) (sym (plus-zero p s))
row-suc p s (suc n) = ap (λ qs. p ∷ qs) (row-suc (p +ₚ s) s n) ∙ ap (λ q. p ∷ row (p +ₚ s) s n ++ q ∷ []) (plus-plus p s n)

pub row-last : (p : Ptr) (s n : ℕ) → row p s (n + 1) ≡ row p s n ++ (p +ₚ (n * s)) ∷ []
row-last p s n = let one : n + 1 ≡ suc n = omega arith in ap (row p s) one ∙ row-suc p s n

pub length-row : (p : Ptr) (s n : ℕ) → length (row p s n) ≡ n
unfolding row
length-row p s zero = refl
length-row p s (suc n) = ap (λ (k : ℕ). suc k) (length-row (p +ₚ s) s n)

pub places-head : (s : ℕ) (c : Chunk) (cs : List Chunk) → places s (c ∷ cs) ≡ row (c.at +ₚ 16) s c.count ++ places s cs
unfolding places
places-head s c cs = refl

pub nat_lt-near : (o : ℕ) → o < 2 ^ 63 → nat_lt o (2 ^ 63) ≡ true
nat_lt-near o h = T_true (nat_lt o (2 ^ 63)) (lt→ltb o (2 ^ 63) h)

-- places near the start of a block may be compared with null
pub AreBlocks-row : (b o s n : ℕ) → o + n * s < 2 ^ 63 → AreBlocks (row (block_ptr b o) s n)
unfolding row
AreBlocks-row b o s zero h = tt
AreBlocks-row b o s (suc n) h = (nat_lt-near o (omega (arith, suc-times n s)), AreBlocks-row b (o + s) s n (omega (arith, suc-times n s)))

is_block-first : (p : Ptr) (s n : ℕ) → AreBlocks (row p s (suc n)) → is_block p ≡ true
unfolding row
is_block-first p s n all = all.0

-- n places and one more, us
module _ (p : Ptr) (s n : ℕ) (us : List Ptr) (e : us ≡ row p s (n + 1)) where
  last_too : us ≡ row p s n ++ (p +ₚ (n * s)) ∷ []
  last_too = e ∙ row-last p s n

  pub is_block-row_first : AreBlocks us → is_block p ≡ true
  is_block-row_first all = let one : n + 1 ≡ suc n = omega arith in is_block-first p s n (subst AreBlocks (e ∙ ap (row p s) one) all)

  pub is_block-row_last : AreBlocks us → is_block (p +ₚ (n * s)) ≡ true
  is_block-row_last all = (AllByRecursion-right (λ q. is_block q ≡ true) (row p s n) ((p +ₚ (n * s)) ∷ []) (subst AreBlocks last_too all)).0

  pub AreBlocks-row_other : AreBlocks us → AreBlocks (row p s n)
  AreBlocks-row_other all = AllByRecursion-left (λ q. is_block q ≡ true) (row p s n) ((p +ₚ (n * s)) ∷ []) (subst AreBlocks last_too all)

  -- the last unused place becomes the newest node
  pub row-next : (ps : List Ptr) → row p s n ++ (p +ₚ (n * s)) ∷ ps ≡ us ++ ps
  row-next ps = sym (append_assoc (row p s n) ((p +ₚ (n * s)) ∷ []) ps) ∙ ap (λ qs. qs ++ ps) (sym last_too)

-- a chunk more
pub row-more : (s : ℕ) (c : Chunk) (us ps : List Ptr) (cs : List Chunk) → IsRearranged (us ++ ps) (places s cs)
    → IsRearranged ((row (c.at +ₚ 16) s c.count ++ us) ++ ps) (places s (c ∷ cs))
row-more s c us ps cs h t =
    let new : List Ptr = row (c.at +ₚ 16) s c.count in
    ap (count_by t) (append_assoc new us ps) ∙ count_by-append t new (us ++ ps) ∙ ap (λ k. count_by t new + k) (h t)
    ∙ sym (count_by-append t new (places s cs)) ∙ ap (count_by t) (sym (places-head s c cs))

pub length-places : (s : ℕ) (cs : List Chunk) → length (places s cs) ≡ place_count cs
unfolding places place_count
length-places s [] = refl
length-places s (c ∷ cs) = grind (arith, length-append, length-row, length-places s cs)

pub block_ptr-in_block : (p : Ptr) → is_block p ≡ true → (at : ℕ × ℕ) × (p ≡ block_ptr at.0 at.1)
block_ptr-in_block (block_ptr b o) e = ((b, o), refl)
block_ptr-in_block null_ptr e = cc

-- a ring's chunks stay if its nodes keep theirs
pub IsLaid-same : {us vs : List Ptr} {cs ds : List Chunk} {newest : Ptr} {made : ℕ}
    → IsLaid us cs newest made → vs ≡ us → ds ≡ cs → IsLaid vs ds newest made
IsLaid-same {newest = p} l e f = record {
  none_unused = e ∙ l.none_unused;
  all_listed = subst (λ zs. IsChain zs p) (sym f) l.all_listed;
  all_made = l.all_made ∙ ap place_count (sym f);
}

pub IsChain-none : {cs : List Chunk} {p : Ptr} → cs ≡ [] → p ≡ null_ptr → IsChain cs p
unfolding IsChain
IsChain-none {p = p} e n = subst (λ zs. IsChain zs p) (sym e) n

pub IsLaid-none : {us : List Ptr} {cs : List Chunk} {p : Ptr} → us ≡ [] → cs ≡ [] → p ≡ null_ptr → IsLaid us cs p 0
unfolding place_count
IsLaid-none e f n = record { none_unused = e; all_listed = IsChain-none f n; all_made = sym (ap place_count f) }

pub row-less : (p : Ptr) (s n : ℕ) → 0 < n → row p s n ≡ row p s (n - 1 + 1)
row-less p s n some = ap (row p s) (omega arith)

-- if no place is unused, there are as many nodes as places
pub length-made : {L B : Type 0} (ns : List (Cell L B)) (us : List Ptr) (s : ℕ)
    (cs : List Chunk) → IsRearranged (us ++ pointers ns) (places s cs) → us ≡ [] → length ns ≡ place_count cs
length-made ns us s cs h e =
    sym (length-map ns (λ n. n.at)) ∙ ap (λ qs. length (qs ++ pointers ns)) (sym e) ∙ length-IsRearranged _ _ h ∙ length-places s cs

-- a chunk more
pub IsLaid-grown : {us vs : List Ptr} {cs ds : List Chunk} {p : Ptr} {made : ℕ} (c : Chunk) → IsLaid us cs p made → vs ≡ []
    → ds ≡ c ∷ cs → c.next ≡ p → is_block c.at ≡ true → IsLaid vs ds c.at (made + c.count)
unfolding IsChain place_count
IsLaid-grown {cs = cs} {p = p} {made = made} c l e f n b = record {
  none_unused = e;
  all_listed = subst (λ zs. IsChain zs c.at) (sym f) (refl, b, subst (IsChain cs) (sym n) l.all_listed);
  all_made = rw f (omega (arith, l.all_made));
}

-- a chain from what is not null has a chunk
pub record FirstChunk (cs : List Chunk) (p : Ptr) : Type 0 where
  pub next : Ptr
  pub count : ℕ
  pub rest : List Chunk
  pub is : cs ≡ chunk p next count ∷ rest

pub IsChain-comparable : (cs : List Chunk) (p : Ptr) → IsChain cs p → is_null_or_block p ≡ true
unfolding IsChain
IsChain-comparable cs null_ptr k = refl
IsChain-comparable [] (block_ptr b o) e = cc
IsChain-comparable (c ∷ cs) (block_ptr b o) k = ap is_block k.0 ∙ k.1

pub IsChain-null : (cs : List Chunk) (p : Ptr) → IsChain cs p → is_null p ≡ true → cs ≡ []
unfolding IsChain
IsChain-null [] p k e = refl
IsChain-null (c ∷ cs) (block_ptr b o) k e = cc
IsChain-null (c ∷ cs) null_ptr k e = let no : false ≡ true = ap is_block k.0 ∙ k.1 in cc

pub IsChain-first : (cs : List Chunk) (p : Ptr) → IsChain cs p → is_null p ≡ false → FirstChunk cs p
unfolding IsChain
IsChain-first [] p k e = let no : true ≡ false = sym (ap is_null k) ∙ e in absurd cc
IsChain-first (c ∷ cs) p k e = record {
  next = c.next;
  count = c.count;
  rest = cs;
  is = ap (λ q. chunk q c.next c.count ∷ cs) (sym k.0);
}

pub IsChain-rest : (cs : List Chunk) (p : Ptr) (c : Chunk) (ds : List Chunk) → IsChain cs p → cs ≡ c ∷ ds → IsChain ds c.next
unfolding IsChain
IsChain-rest cs p c ds k e = (subst (λ zs. IsChain zs p) e k).2

pub is_null-in_block : (p : Ptr) → InBlock p → is_null p ≡ false
is_null-in_block (block_ptr b o) t = refl
is_null-in_block null_ptr t = absurd t

pub led_to-nowhere : (p : Ptr) → led_to p ≡ None → p ≡ null_ptr
led_to-nowhere (block_ptr b o) e = cc
led_to-nowhere null_ptr e = refl

pub IsChain-same : {cs ds : List Chunk} (p : Ptr) → IsChain cs p → ds ≡ cs → IsChain ds p
IsChain-same p k e = subst (λ zs. IsChain zs p) (sym e) k
