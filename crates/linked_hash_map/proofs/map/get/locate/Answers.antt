use Rattle.linked_hash_map.proofs.Names.{subst, IfNone-then, IfSome_then, IsDistinct}
use Rattle.linked_hash_map.proofs.nodes.{AbsentKeys.find-LacksKey, AbsentKeys.hash_by-respects, HeldPairs.keys-bare, StoredKeys.find-stored}
use Rattle.linked_hash_map.proofs.map.get.locate.Goals as goal

pub returns-clause-found : goal.returns-clause-found
returns-clause-found g c =
    let distinct = subst (IsDistinct g.K.PartialEq.eq) (keys-bare c.args.table.now.held) c.requires.distinct in
    IfSome_then c.position.result c.position.ensures.found (λ p h. record {
      has = h;
      pair = find-stored g.met.K.Eq.laws (g.met.Q.Equivalent.respects_eq c.args.key) h distinct;
    })

pub returns-clause-absent : goal.returns-clause-absent
returns-clause-absent g c = IfNone-then c.position.result c.position.ensures.absent
    (find-LacksKey (hash_by-respects g.S.Hasher.Hasher.finish g.S.Hasher.Hasher.write
    g.S.BuildHasher.build_hasher g.met.Q.Equivalent.respects_hash) c.args.hasher.now
    c.args.key c.hash_one-hash.ensures c.args.table.now.held c.requires.hashed)
