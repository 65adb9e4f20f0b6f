-- `new` owns nothing yet. Assumes `Logic`.
use Rattle.lhm_ring.proofs.Names.{ !, [], agg, alloc_all, and_then, by, feq_i, fjoin, free_all, ftrue, get, id⊢, inst_fn, keep, look_at}
use Rattle.lhm_ring.proofs.Names.{no_more, node_bytes, nothing, pass_all, qed, raw, refl, returns, sets, split, use0, ‵, ℕ, ◌$◌, ◌∵◌, ◌∷◌}
use Rattle.lhm_ring.proofs.memory.NodeFields.{Marker, Nr, RK, RL, RV, Three, args, marker, marker_made, three_rows}
use Rattle.lhm_ring.proofs.memory.Steps.{runs_at, tokens, walks, with_facts}
use Rattle.lhm_ring.proofs.{Names.◌⊛◌, lists.Apart.IsApart-none, memory.Places.places-none, nodes.Nodes.new.Statement.statement}
use Rattle.lhm_ring.specs.contracts.nodes.Nodes.new.{clauses, ended, Key.name as #self}
use Rattle.lhm_ring.proofs.nodes.Nodes.new.Code as code

pub new_spec : {M : Type 1} → statement M
new_spec 𝓤 𝓛 𝓜 𝓡 wired L K V LL LK LV =
    let E : Three = three_rows LL LK LV in
    let N = Nr E in let R = RL E in let S = RK E in let W = RV E in
    let En = ended L K V in let c = clauses L K V 𝓛 𝓜.mem 𝓡.returns in let fn = inst_fn (args E) code.function in
    walks 𝓛 En c 𝓡 tt (#self (args E)) fn (code.unfolded 𝓤 𝓛.H 𝓜 𝓡 wired (L, (K, (V, tt)))) (λ κs qs _ a _ gh _ Post leave.
    let out : N.Denot = record {
      marker = record {};
      cells = [];
      apart = IsApart-none;
      blocks = tt;
      node_bytes = node_bytes R S W;
      unused = [];
      chunks = [];
      unused_blocks = tt;
      laid = places-none (node_bytes R S W);
    } in
    qed 𝓛 ((‵ (tokens 3 κs qs) ⊛ ‵ ftrue) ∷ raw ((c κs a).requires gh) ∷ []) ∵ split ! $ keep ! (0 ∷ []) $
    runs_at ! fn [] refl $ alloc_all ! (λ l. pass_all ! refl tt $
    sets ! (agg ! (no_more !)) refl (tt, tt) $ sets ! (agg ! (and_then ! (get ! refl) (no_more !))) refl (tt, (tt, tt)) $
    nothing ! $ nothing ! $ fjoin ! $ feq_i ! ℕ (node_bytes R S W) (node_bytes R S W) refl $ fjoin ! $
    use0 𝓛 (‵ ((Marker E).own_val (tt, tt) (marker ∷ []))) (marker_made E 𝓛) $ fjoin ! $ nothing ! $
    returns ! (look_at ! 0 refl) $ free_all ! refl $ keep ! (2 ∷ 0 ∷ 1 ∷ []) $
    by ! (with_facts 𝓛 (_ ∷ _ ∷ []) (leave marker out tt) (id⊢ 𝓤 _) (refl, ((refl, refl), tt)))))
