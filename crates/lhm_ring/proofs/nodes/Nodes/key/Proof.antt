-- `key` shows the key of one node. Assumes `Logic`.
use Rattle.lhm_ring.proofs.{nodes.Nodes.key.Statement.statement, rings.Lookup.Cut-held, rings.Lookup.held_here}
use Rattle.lhm_ring.proofs.{Names.refl, Names.Holds, Names.IsKey, Names.body_at, memory.FieldSeen.Field, memory.FieldSeen.field_seen}
use Rattle.lhm_ring.proofs.{memory.FieldSeen.key_lent, memory.NodeFields.Three, memory.NodeFields.ko, memory.NodeFields.three_rows}
use Rattle.lhm_ring.specs.contracts.nodes.Nodes.key.Key.{name as #self}
use Rattle.lhm_ring.proofs.nodes.Nodes.key.Code as code

pub key_spec : {M : Type 1} → statement M
key_spec 𝓤 𝓛 𝓜 𝓡 wired L K V LL LK LV =
    let E : Three = three_rows LL LK LV in
    let A : Field E = record { index = 1; type = K; offset = ko E; Asked = Holds; Told = λ x cs p. IsKey x (body_at cs p) } in
    field_seen A 𝓛 𝓡 #self code.function
    (code.unfolded 𝓤 𝓛.H 𝓜 𝓡 wired (L, (K, (V, tt)))) refl refl
    (λ cs p asked. let x = asked.0 in let k = Cut-held cs p x asked.1 in record {
      value = x.0;
      told = (x.1, asked.1);
      cut = k;
      lent = λ κ. key_lent 𝓛 E κ k.split.node x (held_here k asked.1);
    })
