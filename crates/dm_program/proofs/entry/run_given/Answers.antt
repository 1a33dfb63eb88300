use Rattle.dm_program.proofs.Names.{rules, ◌≡◌, List, ℕ, refl, subst, sym, map, string_bytes, request_of, IsTaken, NoMemory, Usage, asked_fits, promised, of_rule, around, shelf_around, sink_around, ProgramMeets}
use Rattle.dm_program.proofs.ByRule.{program_lacks, silent_lack}
use Rattle.dm_program.proofs.NoWords.{no_words}
use Rattle.dm_program.proofs.entry.run_given.Goals as goal

pub returns-in-Ok-texts-clause-meets : goal.returns-in-Ok-texts-clause-meets
returns-in-Ok-texts-clause-meets g c =
    let e : map (λ w. w.now) c.as_slice-in-Ok-texts.result.now ≡ map string_bytes c.in-Ok.words.items = search rules in
    let a = around (shelf_around g.F.Shelf.asked g.F.Shelf.told g.F.Shelf.faults g.F.Shelf.last_failed c.args.shelf.now c.run_program.new.shelf) (sink_around g.K.Sink.told g.K.Sink.faults g.K.Sink.last_failed c.args.out.now c.run_program.new.out) in
    rw c.in-Ok.is (subst (λ (w : List (List ℕ)). ProgramMeets (request_of w) a c.run_program.new.world c.run_program.result) e c.run_program.ensures.meets)

pub returns-in-Err-texts-clause-meets : goal.returns-in-Err-texts-clause-meets
returns-in-Err-texts-clause-meets g c =
    let nothing : (name : List ℕ) → g.F.Shelf.asked c.args.shelf.now name c.args.shelf.now = λ name. search rules in
    rw c.in-Ok.is (program_lacks (request_of (map string_bytes c.in-Ok.words.items)) _ _ c.in-Err-texts.no (asked_fits (map string_bytes c.in-Ok.words.items)) (record { unread = refl; unwritten = refl; no_world = refl }) nothing)

pub returns-in-Ok-texts-clause-said : goal.returns-in-Ok-texts-clause-said
returns-in-Ok-texts-clause-said g c =
    let e : map (λ w. w.now) c.as_slice-in-Ok-texts.result.now ≡ map string_bytes c.in-Ok.words.items = search rules in
    rw c.in-Ok.is (subst (λ (w : List (List ℕ)). (promised of_rule (request_of w)).first (g.F.Shelf.told c.args.shelf.now) c.run_program.result c.run_program.new.said.items) e c.run_program.ensures.said)

pub returns-in-Err-texts-clause-said : goal.returns-in-Err-texts-clause-said
returns-in-Err-texts-clause-said g c = rw c.in-Ok.is (silent_lack (request_of (map string_bytes c.in-Ok.words.items)) (g.F.Shelf.told c.args.shelf.now) c.in-Err-texts.no _ (asked_fits (map string_bytes c.in-Ok.words.items)) c.new.ensures.items)

pub returns-in-Err-clause-said : goal.returns-in-Err-clause-said
returns-in-Err-clause-said g c = rw c.in-Err.is c.new.ensures.items

pub returns-in-Ok-texts-clause-refused : goal.returns-in-Ok-texts-clause-refused
returns-in-Ok-texts-clause-refused g c =
    let e : map (λ w. w.now) c.as_slice-in-Ok-texts.result.now ≡ map string_bytes c.in-Ok.words.items = search rules in
    rw c.in-Ok.is (λ usage taken. subst (λ (w : List (List ℕ)). (promised of_rule (request_of w)).refuses (g.F.Shelf.told c.args.shelf.now)) e (c.run_program.ensures.refused usage (subst IsTaken (sym e) taken)))

pub returns-in-Err-texts-clause-refused : goal.returns-in-Err-texts-clause-refused
returns-in-Err-texts-clause-refused g c = rw c.in-Ok.is (λ usage taken. let f : NoMemory c.in-Err-texts.no ≡ Usage = usage in absurd cc)

pub returns-in-Err-clause-meets : goal.returns-in-Err-clause-meets
returns-in-Err-clause-meets g c = rw c.in-Err.is (no_words c.in-Err.no _ _ c.status.result c.status.ensures (record { unread = refl; unwritten = refl; no_world = refl }))
