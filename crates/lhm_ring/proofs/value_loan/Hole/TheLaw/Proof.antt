-- A `&` to a hole shows nothing, so there is nothing to show. Assumes `Logic`.
use Rattle.lhm_ring.proofs.Names.{ !, RattleType, [], done, drop, fbor, full_share, lfts, nothing, nothing_shr_laws, now, part_at, qed, raw}
use Rattle.lhm_ring.proofs.Names.{sem, sep, updating, ‵, ◌$◌, ◌∷◌}
use Rattle.lhm_ring.proofs.value_loan.Hole.TheLaw.Statement.{statement}
use denote.{Param.Laws.Laws, Sharing.nothing as none_shared}
use Rattle.lhm_ring.specs.contracts.value_loan.Hole as C

pub shares : (T : RattleType) (L : Laws T) → statement T L
shares T L = record {
  shr_laws = λ d b o. nothing_shr_laws;
  shares = λ M 𝓤 𝓛 d κ ts b o inc sp.
      let P = part_at (C.the_written T) full_share d b o in
      qed 𝓛 (‵ (fbor κ P) ∷ raw (lfts 𝓛 ts) ∷ [])
      {P = 𝓛.H.⇛ (sep 𝓤 (sem 𝓛 (none_shared κ)) (lfts 𝓛 ts))}
      (updating ! $ drop ! $ nothing ! $ now ! $ done !);
}
