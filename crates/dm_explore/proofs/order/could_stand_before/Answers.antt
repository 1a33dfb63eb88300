use Rattle.std.proofs.Common.{sym, ap, ◌∙◌, arith, length, ◌-◌, drop, lt-ltb, le-ltb, nat_lt}
use Rattle.std.specs.Prelude.{◌≡◌, List, false, true}
use Rattle.dm_explore.specs.Order.{could_stand_before, meet}
use Rattle.dm_explore.specs.Past.{Did}
use Rattle.dm_explore.specs.declared.past.Done.{Done}
use Rattle.dm_explore.proofs.Notes.{noted_length}
use Rattle.dm_explore.proofs.Standing.{csb_meets, csb_on, csb_passes, nothing, read}
use Rattle.dm_explore.proofs.order.could_stand_before.Goals as goal

pub loop-place-init : goal.loop-place-init
loop-place-init c =
    record {
      within = let same = ap (λ (xs : List Done). length xs) c.done-place.ensures in omega arith;
      same = λ ds h.
          let same = ap (λ (xs : List Done). length xs) c.done-place.ensures in
          let long = ap (λ (xs : List Done). length xs) h.done in
          let count = noted_length ds in
          let none : 0 ≡ length ds - length c.done-place.result.now = omega arith in
          ap (λ n. could_stand_before (drop n ds) c.args.step c.args.actor.machine c.args.actor.away) none;
    }

pub meet-requires-clause-ordered : goal.meet-requires-clause-ordered
meet-requires-clause-ordered c = (read c.args.past.now c.requires.done c.loop-place.place c.done.result.now c.puts.result.now nothing c.requires.is c.loop-place-test.true c.loop-place.invariant.within c.done.ensures c.puts.ensures).ordered

pub meet-requires-clause-within : goal.meet-requires-clause-within
meet-requires-clause-within c = (read c.args.past.now c.requires.done c.loop-place.place c.done.result.now c.puts.result.now nothing c.requires.is c.loop-place-test.true c.loop-place.invariant.within c.done.ensures c.puts.ensures).within

pub returns-then-meet : goal.returns-then-meet
returns-then-meet c = λ ds h.
    let r = read c.args.past.now ds c.loop-place.place c.done.result.now c.puts.result.now nothing h c.loop-place-test.true c.loop-place.invariant.within c.done.ensures c.puts.ensures in
    let stops : meet r.did c.args.step c.args.actor.machine c.args.actor.away ≡ true = sym (c.meet.ensures r.did r.noted_) ∙ c.if-meet.true in
    sym (c.loop-place.invariant.same ds h ∙ (ap (λ (es : List Did). could_stand_before es c.args.step c.args.actor.machine c.args.actor.away) r.here ∙ csb_meets r.did r.before c.args.step c.args.actor.machine c.args.actor.away stops))

pub returns-then-earlier-actor : goal.returns-then-earlier-actor
returns-then-earlier-actor c = λ ds h.
    let r = read c.args.past.now ds c.loop-place.place c.done.result.now c.puts.result.now nothing h c.loop-place-test.true c.loop-place.invariant.within c.done.ensures c.puts.ensures in
    let apart : meet r.did c.args.step c.args.actor.machine c.args.actor.away ≡ false = sym (c.meet.ensures r.did r.noted_) ∙ c.if-meet.false in
    let machine = r.noted_.machine in
    let higher : nat_lt c.args.actor.machine r.did.machine ≡ true = lt-ltb c.args.actor.machine r.did.machine (omega arith) in
    sym (c.loop-place.invariant.same ds h ∙ (ap (λ (es : List Did). could_stand_before es c.args.step c.args.actor.machine c.args.actor.away) r.here ∙ csb_passes r.did r.before c.args.step c.args.actor.machine c.args.actor.away apart higher))

pub loop-place-preserved : goal.loop-place-preserved
loop-place-preserved c =
    record {
      within = let within_ = c.loop-place.invariant.within in omega arith;
      same = λ ds h.
          let r = read c.args.past.now ds c.loop-place.place c.done.result.now c.puts.result.now nothing h c.loop-place-test.true c.loop-place.invariant.within c.done.ensures c.puts.ensures in
          let apart : meet r.did c.args.step c.args.actor.machine c.args.actor.away ≡ false = sym (c.meet.ensures r.did r.noted_) ∙ c.if-meet.false in
          let machine = r.noted_.machine in
          let low : nat_lt c.args.actor.machine r.did.machine ≡ false = le-ltb c.args.actor.machine r.did.machine (omega arith) in
          c.loop-place.invariant.same ds h ∙ (ap (λ (es : List Did). could_stand_before es c.args.step c.args.actor.machine c.args.actor.away) r.here
          ∙ (csb_on r.did r.before c.args.step c.args.actor.machine c.args.actor.away apart low ∙ ap (λ (es : List Did). could_stand_before es c.args.step c.args.actor.machine c.args.actor.away) (sym r.behind)));
    }
