-- `links` shows the links of one node. Assumes `Logic`.
use Rattle.lhm_ring.proofs.Names.{IsAt, Some, ap, links_at, links_of, refl, ◌≡◌}
use Rattle.lhm_ring.proofs.memory.FieldSeen.{Field, field_seen, links_lent}
use Rattle.lhm_ring.proofs.memory.NodeFields.{Three, lo, three_rows}
use Rattle.lhm_ring.proofs.{nodes.Nodes.links.Statement.statement, rings.Lookup.Cut-links_at}
use Rattle.lhm_ring.specs.contracts.nodes.Nodes.links.Key.{name as #self}
use Rattle.lhm_ring.proofs.nodes.Nodes.links.Code as code

pub links_spec : {M : Type 1} → statement M
links_spec 𝓤 𝓛 𝓜 𝓡 wired L K V LL LK LV =
    let E : Three = three_rows LL LK LV in
    let A : Field E = record { index = 0; type = L; offset = lo E; Asked = IsAt; Told = λ x cs p. links_at cs p ≡ Some x } in
    field_seen A 𝓛 𝓡 #self code.function
    (code.unfolded 𝓤 𝓛.H 𝓜 𝓡 wired (L, (K, (V, tt)))) refl refl
    (λ cs p asked. let k = Cut-links_at cs p asked.0 asked.1 in record {
      value = k.split.node.links;
      told = ap links_of k.here;
      cut = k;
      lent = λ κ. links_lent 𝓛 E κ k.split.node;
    })
