-- A search looks behind the choices of a place, one by one.
use Rattle.std.specs.Prelude.{◌≡◌, ◌≢◌, ◌<◌, ◌≤◌, ◌+◌, ◌-◌, ℕ, suc, Bool, true, false, List, [], get_or, length}
use Rattle.std.specs.List.{All}
use Rattle.std.specs.declared.option.Option.TheVariants.{Some}
use Rattle.std.proofs.Common.{refl, sym, ap, ◌∙◌, subst, arith}
use Rattle.dm_schedule.specs.declared.Step.{Step}
use Rattle.dm_run.specs.Runs.{IsStep}
use Rattle.dm_explore.specs.declared.search.Looked.{Looked as TheLooked}
use Rattle.dm_explore.specs.declared.search.Looked.TheVariants as the
use Rattle.dm_explore.specs.declared.search.Search.{Search}
use Rattle.dm_explore.specs.Answers.{Looked, Nothing, look_through}
use Rattle.dm_explore.specs.Choices.{choices}
use Rattle.dm_explore.specs.Offered.{Offers}
use Rattle.dm_explore.specs.Places.{Place, after_step, open_at, tried_behind}
use Rattle.dm_explore.specs.Search.{Comes, GoesBy, HasGone, IsSearch, IsSearching, LooksBehind, Stepped, StoppedBy, TakenBehind, WentOn, asks, limits, room}
use Rattle.dm_explore.proofs.Searching.{LooksOn, behind_comes, behind_taken, goes_by_both, looks_all, looks_ended, looks_first, looks_more, looks_worn, open_fits, open_here, places, same_limits, taken_all, tried_places}
use Rattle.dm_explore.proofs.Going.{searching_on, stepped_from, stopped_from}

-- what comes of looking behind all of them
abbrev pub whole : Search → Place → List Step → ℕ → Looked
whole old p es left = look_through (asks old) (room old) (places old.world.boot (limits old) p left es)

-- the places behind one
all_places : (old : Search) (p : Place) (es : List Step) (left k : ℕ) → k ≡ suc left → es ≡ open_at old.world.boot (limits old) p → tried_behind old.world.boot (limits old) p k ≡ places old.world.boot (limits old) p left es
all_places old p es left k size is = tried_places old.world.boot (limits old) p left k size ∙ ap (places old.world.boot (limits old) p left) (sym is)

-- as much room
pub same_room : (old new : Search) → GoesBy old new → new.tried ≡ old.tried → room old ≡ room new
same_room old new g same = λ i. ((sym g.bounds) i).now.most - (sym same) i

-- nothing is found behind the first of them
pub record IsLooking (old new : Search) (es : List Step) (i left : ℕ) : Type 0 where
  pub goes : GoesBy old new
  pub search : (p : Place) → IsSearch old p → IsSearch new p
  pub all : (p : Place) → IsSearch old p → es ≡ open_at old.world.boot (limits old) p
  pub looks : (p : Place) → IsSearch old p → LooksOn old.world.boot (limits old) (asks old) (whole old p es left) p es i left (room new)

pub looking_first : (old new : Search) (es : List Step) (left : ℕ) → GoesBy old new → new.tried ≡ old.tried → ((p : Place) → IsSearch old p → IsSearch new p) → ((p : Place) → IsSearch old p → es ≡ open_at old.world.boot (limits old) p) → IsLooking old new es 0 left
looking_first old new es left goes tried search all = record {
  goes = goes;
  search = search;
  all = all;
  looks = λ p h. subst (λ n. LooksOn old.world.boot (limits old) (asks old) (whole old p es left) p es 0 left n) (same_room old new goes tried) (looks_first old.world.boot (limits old) (asks old) p es left (room old));
}

-- a choice is a directive for the machines
pub choice_fits : (old new : Search) (es : List Step) (i left : ℕ) (d e : Step) (p : Place) → IsLooking old new es i left → IsSearch old p → i < length es → e ≡ get_or es i d → IsStep (length new.world.boot.machines) e
choice_fits old new es i left d e p l h lt is =
    let each : All (IsStep (length old.world.boot.machines)) es = subst (All (IsStep (length old.world.boot.machines))) (sym (l.all p h)) (open_fits old.world.boot (limits old) p h.asked) in
    subst (λ b. IsStep (length b.machines) e) (sym l.goes.boot) (subst (IsStep (length old.world.boot.machines)) (sym is) (each i d lt))

-- it wears a pair of machines
pub looking_worn : (old mid new : Search) (es : List Step) (i left : ℕ) (d e : Step) → IsLooking old mid es i left → i < length es → e ≡ get_or es i d → GoesBy mid new → new.tried ≡ mid.tried
    → ((p : Place) → IsSearch mid p → StoppedBy mid new p e) → IsLooking old new es (i + 1) left
looking_worn old mid new es i left d e l lt is goes tried stopped =
    let s : (p : Place) → IsSearch old p → StoppedBy old new p e = λ p h. stopped_from old mid new p e l.goes.boot (stopped p (l.search p h)) in
    record {
      goes = goes_by_both old mid new l.goes goes;
      search = λ p h. (s p h).search;
      all = l.all;
      looks = λ p h. subst (λ n. LooksOn old.world.boot (limits old) (asks old) (whole old p es left) p es (i + 1) left n) (same_room mid new goes tried)
          (looks_worn old.world.boot (limits old) (asks old) (whole old p es left) p es i left (room mid) d e (l.looks p h) lt is (s p h).none (s p h).taken);
    }

-- one more directive was done, and nothing is found behind it
pub looking_more : (old mid on back new : Search) (es : List Step) (i left : ℕ) (d e : Step) (r : TheLooked) → IsLooking old mid es i left → i < length es → e ≡ get_or es i d
    → GoesBy mid on → on.tried ≡ mid.tried → ((p : Place) → IsSearch mid p → Stepped mid on p e)
    → GoesBy on back → ((p : Place) → IsSearch on p → LooksBehind on back p left r) → r ≡ the.Nothing
    → GoesBy back new → new.tried ≡ back.tried → ((p u : Place) (f : Step) → HasGone back.world.boot p → after_step back.world.boot p f ≡ Some u → IsSearch back u → IsSearch new p)
    → IsLooking old new es (i + 1) left
looking_more old mid on back new es i left d e r l lt is goes_on tried_on went goes_back looked none goes_new tried_new returns =
    let by_on = goes_by_both old mid on l.goes goes_on in
    let by_back = goes_by_both old on back by_on goes_back in
    let s : (p : Place) → IsSearch old p → Stepped old on p e = λ p h. stepped_from old mid on p e l.goes.boot (went p (l.search p h)) in
    let found : (p : Place) (h : IsSearch old p) → Comes back (s p h).place the.Nothing (look_through (asks old) (room on) (tried_behind old.world.boot (limits old) (s p h).place left))
    = λ p h. subst (λ x. Comes back (s p h).place x (look_through (asks old) (room on) (tried_behind old.world.boot (limits old) (s p h).place left))) none (behind_comes old on back (s p h).place left r by_on (looked (s p h).place (s p h).search))
    in
    record {
      goes = goes_by_both old back new by_back goes_new;
      search = λ p h. returns p (s p h).place e (subst (λ b. HasGone b p) (sym by_back.boot) h.gone) (subst (λ b. after_step b p e ≡ Some (s p h).place) (sym by_back.boot) (s p h).after) (found p h).1;
      all = l.all;
      looks = λ p h. subst (λ n. LooksOn old.world.boot (limits old) (asks old) (whole old p es left) p es (i + 1) left n) (same_room back new goes_new tried_new)
          (looks_more old.world.boot (limits old) (asks old) (whole old p es left) p (s p h).place es i left (room on) (room back) d e
          (subst (λ n. LooksOn old.world.boot (limits old) (asks old) (whole old p es left) p es i left n) (same_room mid on goes_on tried_on) (l.looks p h)) lt is (s p h).after (s p h).taken
          (found p h).0 (behind_taken old on back (s p h).place left r by_on (looked (s p h).place (s p h).search) none));
    }

-- or something ends the search there
pub looking_ended : (old mid on new : Search) (es : List Step) (i left k : ℕ) (d e : Step) (r : TheLooked) → IsLooking old mid es i left → i < length es → e ≡ get_or es i d
    → GoesBy mid on → on.tried ≡ mid.tried → ((p : Place) → IsSearch mid p → Stepped mid on p e)
    → ((p : Place) → IsSearch on p → LooksBehind on new p left r) → (r ≡ the.Nothing → ⊥) → k ≡ suc left → (p : Place) → IsSearch old p → LooksBehind old new p k r
looking_ended old mid on new es i left k d e r l lt is goes_on tried_on went looked other size p h =
    let by_on = goes_by_both old mid on l.goes goes_on in
    let s : Stepped old on p e = stepped_from old mid on p e l.goes.boot (went p (l.search p h)) in
    let c : Comes new p r (whole old p es left) = looks_ended old.world.boot (limits old) (asks old) (whole old p es left) p s.place es i left (room on) d e new r
    (subst (λ n. LooksOn old.world.boot (limits old) (asks old) (whole old p es left) p es i left n) (same_room mid on goes_on tried_on) (l.looks p h)) lt is s.after other
    (behind_comes old on new s.place left r by_on (looked s.place s.search))
    in
    record {
      comes = subst (λ ps. Comes new p r (look_through (asks old) (room old) ps)) (sym (all_places old p es left k size (l.all p h))) c;
      taken = λ none. absurd (other none);
    }

-- or none is left
pub looking_over : (old new : Search) (es : List Step) (i left k : ℕ) → IsLooking old new es i left → length es ≤ i → k ≡ suc left → (p : Place) → IsSearch old p → LooksBehind old new p k the.Nothing
looking_over old new es i left k l most size p h = record {
  comes = (ap (look_through (asks old) (room old)) (all_places old p es left k size (l.all p h)) ∙ looks_all old.world.boot (limits old) (asks old) (whole old p es left) p es i left (room new) (l.looks p h) most, l.search p h);
  taken = λ none. subst (TakenBehind old.world.boot (limits old) p) (sym size) (taken_all old.world.boot (limits old) (asks old) (whole old p es left) p es i left (room new) (l.looks p h) most (l.all p h) h.gone);
}

-- there is room for one directive more
pub searching_one : (s : Search) (left : ℕ) → IsSearching s left → left ≢ 0 → IsSearching s 1
searching_one s left h more = record { place = h.place; search = h.search; short = let short = h.short in omega arith; fresh = λ wrong. absurd (omega arith) }

pub searching_still : (old new : Search) (es : List Step) (i left k : ℕ) → IsSearching old left → left ≢ 0 → IsLooking old new es i k → IsSearching new 1
searching_still old new es i left k h more l = record { place = h.place; search = l.search h.place h.search; short = let short = h.short in omega arith; fresh = λ wrong. absurd (omega arith) }

pub searching_behind : (old mid on : Search) (es : List Step) (i left k : ℕ) (e : Step) → IsSearching old left → left ≡ suc k → IsLooking old mid es i k → ((p : Place) → IsSearch mid p → Stepped mid on p e) → IsSearching on k
searching_behind old mid on es i left k e h size l went = searching_on mid on h.place e k (let short = h.short in omega arith) (went h.place (l.search h.place h.search))

-- what is offered where it has come
pub all_offered : (old mid : Search) (p : Place) (es : List Step) → GoesBy old mid → IsSearch mid p → mid.there ≡ true → Offers mid.world mid.past (λ n t ds. choices n (limits mid) t ds) [] es → es ≡ open_at old.world.boot (limits old) p
all_offered old mid p es g h there offers =
    open_here mid p es h there offers ∙ ap (λ b. open_at b (limits mid) p) g.boot ∙ ap (λ q. open_at old.world.boot q p) (same_limits old mid g)

-- what the code says of whether it went on
pub went_so : (old new : Search) (e : Step) (w : Bool) → w ≡ true → ((p : Place) → IsSearch old p → WentOn old new p e w) → (p : Place) → IsSearch old p → Stepped old new p e
went_so old new e w is h p i = subst (WentOn old new p e) is (h p i)

pub worn_so : (old new : Search) (e : Step) (w : Bool) → w ≡ false → ((p : Place) → IsSearch old p → WentOn old new p e w) → (p : Place) → IsSearch old p → StoppedBy old new p e
worn_so old new e w is h p i = subst (WentOn old new p e) is (h p i)
