use Rattle.dm_cmd_explain.proofs.Names.{List, ℕ, Bor, subst, sym, Option, option_map, system_says, both_read, perhaps_both, MeetsShelf, status_so_far, shelf_around}
use Rattle.dm_ending.specs.declared.status.Input.TheVariants as input
use Rattle.dm_cmd_explain.proofs.explain.tell_files.Goals as goal

pub returns-in-Some-clause-shelf : goal.returns-in-Some-clause-shelf
returns-in-Some-clause-shelf g c =
    let f = shelf_around g.F.Shelf.asked g.F.Shelf.told g.F.Shelf.faults g.F.Shelf.last_failed c.args.shelf.now c.tell_schedule.new.shelf in
    subst (λ (o : Option (Bor (List ℕ))). MeetsShelf (perhaps_both c.args.boot.now (option_map (λ b. b.now) o)) f (status_so_far c.tell_schedule.result)) (sym c.in-Some.is)
    (both_read f c.tell_boot.new.shelf c.args.boot.now input.Schedule c.in-Some.name.now c.in-System.system (status_so_far c.tell_schedule.result)
    (system_says (g.F.Shelf.told c.args.shelf.now) c.args.boot.now c.in-System.system c.in-System.text c.in-Ok.told c.in-System.is c.in-Ok.ensures.tells)
    c.in-Ok.ensures.shelf c.tell_schedule.ensures.shelf)
