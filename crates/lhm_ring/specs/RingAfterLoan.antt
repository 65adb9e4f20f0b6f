-- What nodes and a ring end as once a loan has ended: of one value, of all of them, or of all that
-- they hold.
use Rattle.std.specs.Prelude.{◌≡◌, ◌++◌, Option, Some, None, ◌+◌, List, [], map, length}
use Rattle.std.specs.Borrow.{Fml, RattleType, MutBor, GName, Lends, follows, Array, u8, follows_if}
use Rattle.std.proofs.Common.{refl, sym, subst}
use denote.RawPtr.{Ptr}
use Rattle.lhm_ring.specs.Rearranged.{IsRearranged}
use Rattle.lhm_ring.specs.declared.nodes.Nodes.{Nodes}
use Rattle.lhm_ring.specs.contracts.nodes.Nodes.{the_row as nodes_row}
use mathlib.Core.Option as core
use Rattle.lhm_ring.specs.contracts.ring.Ring.{the_row as ring_row}
use Rattle.lhm_ring.specs.Nodes.{IsApart, AreBlocks, cell, with_body, body_at, pointers-change, places}
use Rattle.lhm_ring.specs.ContentLoan.{cleared, pointers-cleared}
use Rattle.lhm_ring.specs.Ring.{State, state, change_at, revalued, set_held_values, unvalued}

-- the value of a pair
abbrev pub value_set : {K V : Type 0} → V → Option (K × V) → Option (K × V)
value_set w None = None
value_set w (Some x) = Some (x.0, w)

-- the same nodes, of which the one at p holds the value w
abbrev pub holding : {L K V : Type 0} → Nodes L K V → Ptr → V → Nodes L K V
holding n p w =
    record {
      marker = n.marker;
      cells = with_body p (value_set w (body_at n.cells p)) n.cells;
      apart = subst IsApart (sym
          (pointers-change p (λ c. cell c.at c.links (value_set w (body_at n.cells p))) (λ c.
          refl) n.cells)) n.apart;
      blocks = subst AreBlocks
          (sym (pointers-change p (λ c. cell c.at c.links (value_set w (body_at n.cells p))) (λ c.
          refl) n.cells)) n.blocks;
      node_bytes = n.node_bytes;
      unused = n.unused;
      chunks = n.chunks;
      unused_blocks = n.unused_blocks;
      laid = subst (λ ps. IsRearranged (n.unused ++ ps) (places n.node_bytes n.chunks))
          (sym (pointers-change p (λ c. cell c.at c.links (value_set w (body_at n.cells p))) (λ c.
          refl) n.cells)) n.laid;
    }

abbrev pub lends_value_of : (L K V : RattleType) → MutBor (Nodes L.Denot K.Denot V.Denot) → Ptr
    → MutBor V.Denot → Fml
lends_value_of L K V n p r = Lends (nodes_row L K V) V n r (holding n.now p)

-- the same nodes with nothing in them
abbrev pub cleared_nodes : {L K V : Type 0} → Nodes L K V → Nodes L K V
cleared_nodes n =
    record {
      marker = n.marker;
      cells = cleared n.cells;
      apart = subst IsApart (sym (pointers-cleared n.cells)) n.apart;
      blocks = subst AreBlocks (sym (pointers-cleared n.cells)) n.blocks;
      node_bytes = n.node_bytes;
      unused = n.unused;
      chunks = n.chunks;
      unused_blocks = n.unused_blocks;
      laid = subst (λ ps. IsRearranged (n.unused ++ ps) (places n.node_bytes n.chunks))
          (sym (pointers-cleared n.cells)) n.laid;
    }

-- once the borrow r, of no bytes, ends, the nodes hold nothing
abbrev pub lends_bodies : (L K V : RattleType) → MutBor (Nodes L.Denot K.Denot V.Denot) → GName
    → Fml
lends_bodies L K V n r =
    follows (nodes_row L K V) (Array u8 0) n.ghost_name r (λ _. cleared_nodes n.now)

-- the same ring, with the value w at p
abbrev pub with_value : {K V : Type 0} → State (K × V) → Ptr → V → State (K × V)
with_value s p w = record s { held = change_at p (revalued w) s.held }

abbrev pub lends_value : (K V : RattleType) → MutBor (State (K.Denot × V.Denot)) → Ptr
    → MutBor V.Denot → Fml
lends_value K V s p r = Lends (ring_row K V) V s r (with_value s.now p)

-- the same ring, with the values vs in order
abbrev pub with_values : {K V : Type 0} → State (K × V) → List V → State (K × V)
with_values s vs = record s { held = set_held_values s.held vs }

-- whatever values are written, the pointers, hashes, chain links and keys stay, in their order
abbrev pub KeepsAllButValues : {K V : Type 0} → State (K × V) → Type 0
KeepsAllButValues {K} {V} s =
    (vs : List V) → map unvalued (set_held_values s.held vs) ≡ map unvalued s.held

-- the ring that s refers to has the values that the loan named r ends at, and all else as it was
abbrev pub lends_values : (K V : RattleType) → MutBor (State (K.Denot × V.Denot)) → core.Option GName
    → Fml
lends_values K V s r =
    follows_if (ring_row K V) (Array V 0) s.ghost_name r (with_values s.now) s.now

-- the same nodes, all spare
abbrev pub all_spare : {B : Type 0} → State B → State B
all_spare s = state [] (s.spares + length s.held) s.nodes

-- once the borrow r, of no bytes, ends, the ring that s refers to holds nothing and all its nodes
-- are spare
abbrev pub lends_spliced : (K V : RattleType) → MutBor (State (K.Denot × V.Denot)) → GName → Fml
lends_spliced K V s r = follows (ring_row K V) (Array u8 0) s.ghost_name r (λ _. all_spare s.now)
