use Rattle.lhm_ring.proofs.Names.{arith, bits_of, get_or-set_other, get_or-set_same, leads_to, length, length-map, map, map-set, refl, set}
use Rattle.lhm_ring.proofs.{Names.subst, Names.sym, Names.target, Names.◌<◌, indexes.BucketHeads.BitsHaveChains-set}
use Rattle.std.proofs.Common.{rules}
use Rattle.lhm_ring.proofs.index.Index.set_head.Goals as goal

pub returns-then-is_none-clause-heads : goal.returns-then-is_none-clause-heads
returns-then-is_none-clause-heads g c =
    rw (c.put.ensures.items, c.take-heads.ensures.items, ← c.self.view_is)
    (map-set leads_to c.self.inside.heads.items c.args.bucket (record { link = c.args.head }))

pub returns-then-is_none-clause-cleared : goal.returns-then-is_none-clause-cleared
returns-then-is_none-clause-cleared g c = λ none.
    rw (c.put-then-is_none.ensures.items, c.take-words.ensures.items, ← c.self.view_is)
    (map-set bits_of c.self.inside.words.items c.args.bucket (record { bits = 0 }))

pub returns-else-is_none-clause-heads : goal.returns-else-is_none-clause-heads
returns-else-is_none-clause-heads g c =
    rw (c.put.ensures.items, c.take-heads.ensures.items, ← c.self.view_is)
    (map-set leads_to c.self.inside.heads.items c.args.bucket (record { link = c.args.head }))

pub invariant_of-self : goal.invariant_of-self
invariant_of-self g c =
    let i = c.self.inside in
    let v = c.self.invariant in
    let hs = map leads_to i.heads.items in
    let ws = map bits_of i.words.items in
    let b = c.args.bucket in
    let within : b < length hs = subst (λ z. b < length z.heads) (sym c.self.view_is) c.requires in
    let inside : b < length ws =
    omega (arith, within, length-map i.heads.items leads_to, length-map i.words.items bits_of, v.heads_count, v.words_count) in
    let bits = BitsHaveChains-set hs ws b (target c.args.head) (set ws b 0) within
    (λ n away. get_or-set_other ws b n 0 0 away) (λ none. get_or-set_same ws b 0 0 inside) v.bits in
    search (rules, bits, map-set)

pub invariant_of-self-else-is_none : goal.invariant_of-self-else-is_none
invariant_of-self-else-is_none g c =
    let i = c.self.inside in
    let v = c.self.invariant in
    let hs = map leads_to i.heads.items in
    let b = c.args.bucket in
    let within : b < length hs = subst (λ z. b < length z.heads) (sym c.self.view_is) c.requires in
    let bits = BitsHaveChains-set hs (map bits_of i.words.items) b (target c.args.head) (map bits_of i.words.items) within
    (λ n away. refl) (λ none. search rules) v.bits in
    search (rules, bits, map-set)
