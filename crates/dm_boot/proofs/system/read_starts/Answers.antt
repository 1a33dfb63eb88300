use Rattle.dm_boot.proofs.Imports.{◌≡◌, ℕ, Some, None, Ok, List, ap, sym, ◌∙◌, view, BootProcess, BootRule, ProcessRoom, first_failing, process_tables, starts_of, broken_or, first_broken, process_rules, has_place, unless, unless_at}
use Rattle.dm_boot.proofs.Parts.{before_room, room-listed, starts-whole, at-ok, at-err, pass-err}
use Rattle.dm_boot.proofs.system.read_starts.Goals as goal

pub returns-in-Some-clause-starts : goal.returns-in-Some-clause-starts
returns-in-Some-clause-starts c =
    let d = view c.args.document.now.top.now in
    let some : c.first_broken.result ≡ Some (c.in-Some.rule, c.in-Some.place) = cc in
    let broken : first_broken before_room d ≡ Some (c.in-Some.rule, c.in-Some.place) = sym (ap (λ (rs : List BootRule). first_broken rs d) room-listed) ∙ sym c.first_broken.ensures ∙ some in
    rw (starts-whole d, broken)

pub returns-in-Ok-clause-starts : goal.returns-in-Ok-clause-starts
returns-in-Ok-clause-starts c =
    let d = view c.args.document.now.top.now in
    let none : first_broken before_room d ≡ None = sym (ap (λ (rs : List BootRule). first_broken rs d) room-listed) ∙ sym c.first_broken.ensures ∙ c.in_default.is in
    let (all, built) = at-ok ProcessRoom (first_failing (has_place d) 0 (process_tables d)) (starts_of d) c.in-Ok.starts c.in-Ok.ensures.starts in
    rw (starts-whole d, none, all) (ap (λ (l : List BootProcess). Ok l) built)

pub returns-in-Err-clause-starts : goal.returns-in-Err-clause-starts
returns-in-Err-clause-starts c =
    let d = view c.args.document.now.top.now in
    let none : first_broken before_room d ≡ None = sym (ap (λ (rs : List BootRule). first_broken rs d) room-listed) ∙ sym c.first_broken.ensures ∙ c.in_default.is in
    let o = first_failing (has_place d) 0 (process_tables d) in
    pass-err (unless_at ProcessRoom o (starts_of d)) (unless (first_broken process_rules d) (starts_of d)) c.in-Err.e
    (λ (x : BootRule × ℕ) h.
    let said : broken_or ProcessRoom (first_failing (has_place d) 0 (process_tables d)) None ≡ Some x = at-err ProcessRoom o None (starts_of d) x h in
    rw (starts-whole d, none, said))
    c.in-Err.ensures.starts
