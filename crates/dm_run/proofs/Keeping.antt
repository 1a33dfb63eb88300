-- The memory of lines is no part of what a world is.
use Rattle.dm_run.proofs.Names.{◌≡◌, false, ap, sym, ◌∙◌, subst, Boot, Line, Vec, Global, World, IsWorld, world_state}

same_world : (w : World) (lines : Vec Line Global) → IsWorld w → IsWorld (record w { lines = lines })
same_world w lines h = record { valid = h.valid; machines = h.machines; nodes = h.nodes }

pub kept_world : (w v : World) (lines : Vec Line Global) → v ≡ record w { lines = lines } → IsWorld w → IsWorld v
kept_world w v lines e h = subst IsWorld (sym e) (same_world w lines h)

pub kept_state : (w v : World) (lines : Vec Line Global) → v ≡ record w { lines = lines } → world_state v ≡ world_state w
kept_state w v lines e = ap (λ (x : World). world_state x) e

pub kept_boot : (w v : World) (lines : Vec Line Global) (b : Boot) → v ≡ record w { lines = lines } → w.boot ≡ b → v.boot ≡ b
kept_boot w v lines b e same = ap (λ (x : World). x.boot) e ∙ same

pub kept_going : (w v : World) (lines : Vec Line Global) → v ≡ record w { lines = lines } → w.stopped ≡ false → v.stopped ≡ false
kept_going w v lines e going = ap (λ (x : World). x.stopped) e ∙ going
