use Rattle.dm_program.proofs.Names.{◌≡◌, List, ℕ, rules, refl, sym, subst, ◌∙◌, Option, Some, None, map, Status, Fits, asked_fits, Request, request_of, request_said, around, shelf_around, sink_around, promised, ProgramMeets, of_rule}
use Rattle.dm_program.proofs.ByRule.{no_request, program_meets, silent_words, words_usage}
use Rattle.dm_program.proofs.Kept.{kept}
use Rattle.dm_program.proofs.Runs.Law.{runs_go}
use Rattle.dm_program.proofs.program.run_program.Goals as goal

pub do_request-requires : goal.do_request-requires
do_request-requires g c = record { law = runs_go; within = c.in-Ok.ensures.within }

pub returns-in-Ok : goal.returns-in-Ok
returns-in-Ok g c =
    let words = map (λ w. w.now) c.args.words.now in
    let asked : Option Request = Some (request_said c.in-Ok.request) in
    let e : request_of words ≡ asked = c.in-Ok.ensures.asks in
    let fits : Fits asked = subst Fits e (asked_fits words) in
    let files = g.F.Shelf.told c.args.shelf.now in
    let a = around (shelf_around g.F.Shelf.asked g.F.Shelf.told g.F.Shelf.faults g.F.Shelf.last_failed c.args.shelf.now c.do_request.new.shelf) (sink_around g.K.Sink.told g.K.Sink.faults g.K.Sink.last_failed c.args.out.now c.do_request.new.out) in
    let k = kept (request_said c.in-Ok.request) fits in
    record {
      meets = subst (λ (r : Option Request). ProgramMeets r a c.do_request.new.world c.do_request.result) (sym e) (program_meets asked a c.do_request.new.world c.do_request.result fits c.do_request.ensures.meets);
      said = subst (λ (r : Option Request). (promised of_rule r).first files c.do_request.result c.do_request.new.said.items) (sym e) (k.first files c.do_request.result c.do_request.new.said.items c.do_request.ensures.said);
      refused = λ usage taken. subst (λ (r : Option Request). (promised of_rule r).refuses files) (sym e) (k.taken a c.do_request.new.world c.do_request.result c.do_request.ensures.meets usage);
    }

pub returns-in-Err-clause-meets : goal.returns-in-Err-clause-meets
returns-in-Err-clause-meets g c =
    let words = map (λ w. w.now) c.args.words.now in
    let nothing : (name : List ℕ) → g.F.Shelf.asked c.args.shelf.now name c.args.shelf.now = λ name. search rules in
    let a = around (shelf_around g.F.Shelf.asked g.F.Shelf.told g.F.Shelf.faults g.F.Shelf.last_failed c.args.shelf.now c.args.shelf.now) (sink_around g.K.Sink.told g.K.Sink.faults g.K.Sink.last_failed c.args.out.now c.args.out.now) in
    subst (λ (s : Status). ProgramMeets (request_of words) a None s) (sym c.status.ensures)
    (no_request (request_of words) a None c.in-Err.no (asked_fits words) (record { unread = refl; unwritten = refl; no_world = refl }) nothing c.in-Err.ensures.usage)

pub returns-in-Err-clause-said : goal.returns-in-Err-clause-said
returns-in-Err-clause-said g c =
    let words = map (λ w. w.now) c.args.words.now in
    let files = g.F.Shelf.told c.args.shelf.now in
    subst (λ (s : Status). (promised of_rule (request_of words)).first files s c.new.result.items) (sym c.status.ensures) (silent_words (request_of words) files c.in-Err.no c.new.result.items (asked_fits words) c.in-Err.ensures.usage c.new.ensures.items)

pub returns-in-Err-clause-refused : goal.returns-in-Err-clause-refused
returns-in-Err-clause-refused g c = λ usage taken. absurd (c.in-Err.ensures.refused (words_usage c.in-Err.no (sym c.status.ensures ∙ usage)) taken)
