use Rattle.lhm_ring.proofs.Names.{Head, Word, ap, arith, bit_or, bits_of, get_or-set_other, leads_to, length, length-map, map, map-set}
use Rattle.lhm_ring.proofs.Names.{set, subst, sym, ◌%◌, ◌*◌, ◌/◌, ◌<◌, ◌^◌, ◌∙◌, ◌≡◌}
use Rattle.lhm_ring.proofs.indexes.{BucketHeads.BitsHaveChains-set, Filters.SetsBit-written}
use Rattle.std.proofs.Common.{rules}
use Rattle.lhm_ring.proofs.index.Index.put_first.Goals as goal

pub returns-clause-heads : goal.returns-clause-heads
returns-clause-heads g c =
    rw (c.put.ensures.items, c.take-heads.ensures.items, ← c.self.view_is, ← c.to.ensures)
    (map-set leads_to c.self.inside.heads.items c.args.bucket (record { link = c.to.result }))

pub invariant_of-self : goal.invariant_of-self
invariant_of-self g c =
    let i = c.self.inside in
    let v = c.self.invariant in
    let hs = map leads_to i.heads.items in
    let ws = map bits_of i.words.items in
    let b = c.args.bucket in
    let head : Head = record { link = c.to.result } in
    let word : Word = record { bits = bit_or (c.index-2.result.now).bits (1 * 2 ^ (c.args.hash / 2 ^ 60) % 2 ^ 16) } in
    let bits = BitsHaveChains-set hs ws b (leads_to head) (set ws b word.bits)
    (subst (λ z. b < length z.heads) (sym c.self.view_is) c.requires.within)
    (λ n away. get_or-set_other ws b n word.bits 0 away) (λ none. search rules) v.bits in
    search (rules, bits, map-set)

pub returns-clause-words : goal.returns-clause-words
returns-clause-words g c =
    let i = c.self.inside in
    let below : c.args.hash < 2 ^ 64 = c.ranges.hash.fits in
    let small : c.args.hash / 2 ^ 60 < 16 = omega arith in
    let seen = ap (λ z. length z.heads) c.self.view_is in
    let long : length c.args.self.now.heads ≡ length (map bits_of i.words.items) = omega (
      arith,
      length-map i.heads.items leads_to,
      length-map i.words.items bits_of,
      c.self.invariant.heads_count,
      c.self.invariant.words_count,
    ) in
    rw (c.put-2.ensures.items, c.take-words.ensures.items, ← c.self.view_is)
    (SetsBit-written i.words.items c.args.bucket c.args.hash (c.requires.of_hash ∙ ap (λ n. c.args.hash % n) long)
    (subst (λ n. c.args.bucket < n) long c.requires.within) small (rw (← c.take-words.ensures.items) c.index-2.ensures))
