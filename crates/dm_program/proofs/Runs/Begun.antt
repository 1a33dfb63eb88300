-- What comes next of a directive of which nothing is done yet is what comes next of it and those behind it.
use Rattle.dm_program.proofs.Runs.Names.{◌≡◌, ℕ, zero, suc, Bool, true, false, List, ◌∷◌, refl, if◌then◌else◌, Option, None, Directive, Next, all_of, todo_of, cursor_of}
use Rattle.dm_schedule.specs.declared.Directive.TheVariants as directive
use Rattle.dm_line.specs.declared.pass.Pass.TheVariants as pass
use Rattle.dm_program.proofs.Names.{Seen, at_rest, following, next_directive, next_pass, or}

-- of a pass of which nothing is left nothing comes, whether its directive is over or not
none_first : (over : Bool) (o : Option Next) → o ≡ or (if over then None else None) o
none_first true o = refl
none_first false o = refl

pub begun_next : (n : ℕ) (seen : Seen) (d : Directive) (ds : List Directive) → following n seen (all_of (d ∷ ds)) ≡ following n seen (todo_of n (cursor_of d) ds)
begun_next n seen (directive.One s) ds = refl
begun_next n seen directive.Round ds = refl
begun_next n seen (directive.Spin zero) ds = refl
begun_next n seen (directive.Spin (suc k)) ds = refl
begun_next n seen directive.Settle ds = none_first seen.quiet (next_pass n seen pass.Settle ds)
begun_next n seen (directive.Rest zero) ds = none_first (at_rest n seen) (next_directive n seen ds)
begun_next n seen (directive.Rest (suc k)) ds = none_first (at_rest n seen) (next_pass n seen (pass.Rest (suc k)) ds)
