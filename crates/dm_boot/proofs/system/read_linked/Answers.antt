use Rattle.dm_boot.proofs.Imports.{ℕ, ◌++◌, subst, view, Result, BootRule, BootProcess, List, Answers, starts_of, processes_of, first_broken, process_rules, link_rules, unless}
use Rattle.dm_boot.proofs.Parts.{unless-ok, pass-err, links-stop, links-alone}
use Rattle.dm_boot.proofs.system.read_linked.Goals as goal

pub returns-in-Ok : goal.returns-in-Ok
returns-in-Ok c =
    let d = view c.args.document.now.top.now in
    let (none, _) = unless-ok (first_broken process_rules d) (starts_of d) c.in-Ok.starts c.in-Ok.ensures.starts in
    subst (λ (w : Result (List BootProcess) (BootRule × ℕ)). Answers w c.read_processes.result) (links-alone d (processes_of d) none) c.read_processes.ensures

pub returns-in-Err : goal.returns-in-Err
returns-in-Err c =
    let d = view c.args.document.now.top.now in
    pass-err (unless (first_broken process_rules d) (starts_of d)) (unless (first_broken (process_rules ++ link_rules) d) (processes_of d)) c.in-Err.e
    (λ (x : BootRule × ℕ) h. links-stop d (starts_of d) (processes_of d) x h)
    c.in-Err.ensures.starts
