-- The messages that are for the manager.
use Rattle.dm_procman.proofs.Names.{◌≡◌, ℕ, refl, ArrayVec, Pid, Link, What, Managing, IsForManager, Outcome}
use Rattle.dm_message.specs.declared.What.TheVariants as what

-- what such a message says
pub data IsHeard (w : What) : Type 0 where
  IsUser : (code channel : ℕ) (body : ArrayVec ℕ) (links : ArrayVec Link) → w ≡ what.User code channel body links → IsHeard w
  IsCreated : (pid : Pid) → w ≡ what.Created pid → IsHeard w
  IsNoRoom : w ≡ what.NoRoom → IsHeard w
  IsMoved : (outcome : Outcome) → w ≡ what.Moved outcome → IsHeard w

pub heard : (g : Managing) (n : ℕ) (w : What) → IsForManager g n w → IsHeard w
heard g n (what.User code channel body links) h = IsUser code channel body links refl
heard g n (what.Created pid) h = IsCreated pid refl
heard g n what.NoRoom h = IsNoRoom refl
heard g n (what.Moved outcome) h = IsMoved outcome refl
heard g n what.Stop h = absurd h
heard g n what.Resume h = absurd h
heard g n what.Kill h = absurd h
heard g n (what.Read a b) h = absurd h
heard g n (what.Write a b) h = absurd h
heard g n (what.Block a) h = absurd h
heard g n what.Written h = absurd h
heard g n what.Gone h = absurd h
heard g n (what.Create a b) h = absurd h
heard g n (what.Migrate a) h = absurd h
heard g n (what.Update a) h = absurd h
heard g n (what.Ask a b c d e) h = absurd h
heard g n (what.Refuse a b c) h = absurd h
heard g n (what.PullState a b) h = absurd h
heard g n (what.State a b c d) h = absurd h
heard g n (what.PullBlock a b) h = absurd h
heard g n (what.Memory a b c) h = absurd h
heard g n (what.AllTaken a) h = absurd h
heard g n (what.Restart a) h = absurd h
heard g n (what.Move a) h = absurd h
heard g n (what.CallOff a) h = absurd h
heard g n (what.Bury a) h = absurd h
