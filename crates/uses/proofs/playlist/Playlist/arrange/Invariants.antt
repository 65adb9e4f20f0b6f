use Rattle.linked_hash_map.proofs.Callers.Prelude.{◌≡◌, nat_eq, fold, take, to_back_as_is}
use Rattle.uses.proofs.playlist.Playlist.arrange.Given as goal

abbrev pub invariant-loop-number : goal.invariant-loop-number
invariant-loop-number l =
    l.self.songs.pairs ≡ fold (to_back_as_is nat_eq) l.fn.self.songs.pairs (take l.number-index l.order)
