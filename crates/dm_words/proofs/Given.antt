-- Words that the command line takes ask for something.
use Rattle.dm_words.proofs.Names.{◌≡◌, ◌<◌, ◌&&◌, ◌||◌, ◌⊎◌, Bool, true, false, not, ℕ, zero, suc, List, [], ◌∷◌, ◌++◌, length, length-append, refl, ap, ap₂, sym, subst, ◌∙◌, inl, inr, arith, cond, codes, None, is_some, if◌then◌else◌, drop}
use Rattle.dm_words.proofs.Names.{⊤, encode_utf8, find, fold, option_and_then, slice_get, Option, option_map_or, bytes_eq, chars, long_of, short_of, explicit_source, unwrap_or_range, Held, Names, Outcome, Row, Rule, Step, Waiting, Walk}
use Rattle.dm_words.proofs.Names.{action_of, answers_to, after_flag, after_step, arg_by_id, arg_by_index, arg_by_long, arg_by_short, at_row, attached_value, bundle_met, bundle_step, default_rows, finished, first_of, flag_met, idle}
use Rattle.dm_words.proofs.Names.{is_empty, is_pending, has_row, long_met, long_or_other, more_values, most_values, next, nothing_held, option, option_met, option_word, plain, plain_word, positional, positional_held, pushed, reacted}
use Rattle.dm_words.proofs.Names.{reading_by, refused, settled, settled_rows, short_met, short_or_plain, stop_after, subcommand, subcommand_met, subcommand_or_other, takes_several, takes_values, to_positional, trailing, used, used_as}
use Rattle.dm_words.proofs.Names.{used_by_id, value, values_or_missing, waits, walk_from, walked, walked_from, with_default, with_values, without, word_met, done, check_kinds, or_else, range_kinds, is_given, action_fault, bundle_step_fault}
use Rattle.dm_words.proofs.Names.{check_fault, defaults_fault, entered_fault, flag_word_fault, flags_fault, level_fault, long_fault, option_fault, other_fault, positional_fault, react_fault, settle_fault, short_fault, step_fault}
use Rattle.dm_words.proofs.Names.{stray_fault, use_fault, walk_fault, word_fault, Shape, argument_words, built, entered, label_of, labels_of, rows_at, ValueSource, DefaultValue, CommandLine, Reading, drill_by, has_system, lines_asked}
use Rattle.dm_words.proofs.Names.{own_by, run_by, schedule_of, shows_by, machines_asked, seed_of, trace_of, explaining, both_files, Request, Chart, Check, Count, Explain, Judge, Run, run_command, AreTaken, IsTaken, demosmp, request_at}
use Rattle.dm_words.proofs.Names.{request_of, Some, Drill, OwnDrill, groups_of, names_of, looking, Look, CheckLabels, checking, is_just_one, Exploration, Explore, exploration_of, exploring, looking_for, charting, group_in, takes_chart}
use Rattle.dm_words.proofs.Names.{subcommand_of}
use Rattle.std.specs.Prelude.{option_map}
use Rattle.clap.specs.Walk.{walk}
use Rattle.dm_draw.specs.declared.drill.Shows.TheVariants as shows
use Rattle.clap.specs.Walk.{Text}
use Rattle.clap.specs.Kinds.{Kinds}
use Rattle.clap.specs.Faults.{fault_of}
use Rattle.clap.specs.declared.builder.action.ArgAction.TheVariants as action
use Rattle.clap.specs.declared.error.kind.ErrorKind.TheVariants as kind

-- where two steps pass, each does
both_pass : (a b : Kinds) → or_else a b ≡ [] → (a ≡ []) × (b ≡ [])
both_pass [] b e = (refl, e)
both_pass (k ∷ ks) b e = cc

-- ---- matches in which each argument has a value

abbrev Full : List Row → Type 0
Full [] = ⊤
Full (r ∷ rs) = (0 < length r.values) × Full rs

full_append : (a b : List Row) → Full a → Full b → Full (a ++ b)
full_append [] b f g = g
full_append (r ∷ rs) b f g = (f.0, full_append rs b f.1 g)

full_at : (id : Text) (change : Row → List Row) (missing rows : List Row) → ((r : Row) → 0 < length r.values → Full (change r)) → Full missing → Full rows → Full (at_row id change missing rows)
full_at id change missing [] c m f = m
full_at id change missing (r ∷ rs) c m f = go (bytes_eq r.id id) (full_at id change missing rs c m f.1)
  where
    go : (b : Bool) → Full (at_row id change missing rs) → Full (if b then change r ++ rs else r ∷ at_row id change missing rs)
    go true more = full_append (change r) rs (c r f.0) f.1
    go false more = (f.0, more)

more_left : (a b : List Text) → 0 < length a → 0 < length (a ++ b)
more_left a b h = omega (arith, length-append a b)

full_with : (id : Text) (how : Reading) (s : ValueSource) (values : List Text) (rows : List Row) → 0 < length values → Full rows → Full (with_values id how s values rows)
full_with id how s values rows some f = full_at id (more_values s values) _ rows (λ r h. (more_left r.values values h, tt)) (some, tt) f

full_without : (id : Text) (rows : List Row) → Full rows → Full (without id rows)
full_without id rows f = full_at id (λ _. []) [] rows (λ r h. tt) tt f

-- ---- arguments that take a value, ask for help, may come again, or take none

abbrev IsOne : Rule → Type 0
IsOne a =
    ((action_of a ≡ action.Set) × ((unwrap_or_range a.range).start_inclusive ≡ 1)) ⊎ ((action_of a ≡ action.Help)
    ⊎ (((action_of a ≡ action.Append) × ((unwrap_or_range a.range).start_inclusive ≡ 1)) ⊎ ((action_of a ≡ action.SetTrue) × (0 < length a.missing))))

abbrev Each : List Rule → Type 0
Each [] = ⊤
Each (a ∷ c) = IsOne a × Each c

abbrev Fits : Option Rule → Type 0
Fits None = ⊤
Fits (Some a) = IsOne a

found_fits : (test : Rule → Bool) (c : List Rule) → Each c → Fits (find test c)
found_fits test [] all = tt
found_fits test (a ∷ c) all = go (test a) (found_fits test c all.1)
  where
    go : (b : Bool) → Fits (find test c) → Fits (cond b (Some a) (find test c))
    go true later = all.0
    go false later = later

some_values : (least most n : ℕ) → least ≡ 1 → range_kinds least most n ≡ [] → 0 < n
some_values least most zero one e =
    let bad : kind.InvalidValue ∷ [] ≡ [] = subst (λ k. range_kinds k most 0 ≡ []) one e in
    cc
some_values least most (suc n) one e = omega arith

full_set : (a : Rule) (values : List Text) (rows : List Row) → action_of a ≡ action.Set → 0 < length values → Full rows → Full (used a values rows)
full_set a [] rows set some f = absurd (omega arith)
full_set a (v ∷ vs) rows set some f =
    subst (λ x. Full (used_as x a.id (reading_by a) (v ∷ vs) rows)) (sym set) (full_with a.id (reading_by a) CommandLine (v ∷ vs) (without a.id rows) (omega arith) (full_without a.id rows f))

full_more : (a : Rule) (values : List Text) (rows : List Row) → action_of a ≡ action.Append → 0 < length values → Full rows → Full (used a values rows)
full_more a [] rows more some f = absurd (omega arith)
full_more a (v ∷ vs) rows more some f =
    subst (λ x. Full (used_as x a.id (reading_by a) (v ∷ vs) rows)) (sym more) (full_with a.id (reading_by a) CommandLine (v ∷ vs) rows (omega arith) f)

full_flag : (a : Rule) (values : List Text) (rows : List Row) → action_of a ≡ action.SetTrue → 0 < length a.missing → Full rows → Full (used a values rows)
full_flag a [] rows set some f =
    subst (λ x. Full (used_as x a.id (reading_by a) a.missing rows)) (sym set) (full_with a.id (reading_by a) CommandLine a.missing (without a.id rows) some (full_without a.id rows f))
full_flag a (v ∷ vs) rows set some f =
    subst (λ x. Full (used_as x a.id (reading_by a) (v ∷ vs) rows)) (sym set) (full_with a.id (reading_by a) CommandLine (v ∷ vs) (without a.id rows) (omega arith) (full_without a.id rows f))

full_used : (again : Bool) (a : Rule) (values : List Text) (rows : List Row) → IsOne a → use_fault again a values rows ≡ [] → Full rows → Full (used a values rows)
full_used again a values rows (inl set) e f =
    full_set a values rows set.0 (some_values (unwrap_or_range a.range).start_inclusive (most_values a) (length values) set.1 (both_pass _ _ e).0) f
full_used again a values rows (inr (inr (inl more))) e f =
    full_more a values rows more.0 (some_values (unwrap_or_range a.range).start_inclusive (most_values a) (length values) more.1 (both_pass _ _ e).0) f
full_used again a values rows (inr (inr (inr flag))) e f = full_flag a values rows flag.0 flag.1 f
full_used again a values rows (inr (inl help)) e f =
    let bad : kind.DisplayHelp ∷ [] ≡ [] = subst (λ x. action_fault x again a (values_or_missing a values) rows ≡ []) help (both_pass _ _ e).1 in
    cc

-- ---- the walk

module _ (c : List Rule) (all : Each c) (again : Bool) where
  full_settled_rows : (pending : Option (Text × List Text)) (rows : List Row) → option_map_or (λ p. option_map_or (λ a. use_fault again a p.1 rows) (arg_by_id c p.0) []) pending [] ≡ [] → Full rows → Full (settled_rows c pending rows)
  full_settled_rows None rows e f = f
  full_settled_rows (Some p) rows e f = go (arg_by_id c p.0) (found_fits _ c all) e
    where
      go : (o : Option Rule) → Fits o → option_map_or (λ a. use_fault again a p.1 rows) o [] ≡ [] → Full (used_by_id o p.1 rows)
      go None h e = f
      go (Some a) h e = full_used again a p.1 rows h e f

  full_settled : (h : Held) → settle_fault c again h ≡ [] → Full h.rows → Full (settled c h).rows
  full_settled h e f = full_settled_rows h.pending h.rows e f

  full_reacted : (a : Rule) (values : List Text) (h : Held) → IsOne a → react_fault c again a values h ≡ [] → Full h.rows → Full (reacted c a values h).rows
  full_reacted a values h one e f =
      let p = both_pass (settle_fault c again h) (use_fault again a values (settled c h).rows) e in
      full_used again a values (settled c h).rows one p.1 (full_settled h p.0 f)

  full_option : (a : Rule) (v : Option Text) (h : Held) → IsOne a → option_fault c again a v h ≡ [] → Full h.rows → Full (option_met c a v h).0.rows
  full_option a None h one e f = full_settled h e f
  full_option a (Some v) h one e f = full_reacted a (v ∷ []) h one e f

  full_long : (o : Option Rule) (v : Option Text) (h : Held) → Fits o → long_fault c again o v h ≡ [] → Full h.rows → Full (long_met c o v h).0.rows
  full_long None v h one e f = cc
  full_long (Some a) v h one e f = go (takes_values a) v e
    where
      go : (b : Bool) (v : Option Text) → (if b then option_fault c again a v h else (if is_some v then kind.TooManyValues ∷ [] else react_fault c again a [] h)) ≡ [] → Full (if b then option_met c a v h else flag_met c a v h).0.rows
      go true v e = full_option a v h one e f
      go false None e = full_reacted a [] h one e f
      go false (Some v) e = cc

  -- the flags after the first one
  abbrev Later : ℕ → Type 0
  Later k = (rest : Text) (skip : ℕ) (so_far : Outcome) (h : Held) → flags_fault c again k rest skip h ≡ [] → Full h.rows → Full (bundle_met c k rest skip so_far h).0.rows

  full_short : (k : ℕ) (o : Option Rule) (rest : Text) (h : Held) → Later k → Fits o → short_fault c again o rest h (flags_fault c again k rest 0) ≡ [] → Full h.rows → Full (short_met c o rest h (bundle_met c k rest 0 done)).0.rows
  full_short k None rest h later one e f = cc
  full_short k (Some a) rest h later one e f = go (takes_values a) e
    where
      go : (b : Bool) → (if b then option_fault c again a (attached_value rest) h else or_else (react_fault c again a [] h) (flags_fault c again k rest 0 (reacted c a [] h))) ≡ [] → Full (if b then option_met c a (attached_value rest) h else bundle_met c k rest 0 done (reacted c a [] h)).0.rows
      go true e = full_option a (attached_value rest) h one e f
      go false e =
          let p = both_pass (react_fault c again a [] h) (flags_fault c again k rest 0 (reacted c a [] h)) e in
          later rest 0 done (reacted c a [] h) p.1 (full_reacted a [] h one p.0 f)

  full_bundle : (k : ℕ) (o : Option ℕ) (flags : Text) (skip : ℕ) (so_far : Outcome) (h : Held) → Later k → bundle_step_fault c again o flags skip h (flags_fault c again k) ≡ [] → Full h.rows → Full (bundle_step c o flags skip so_far h (bundle_met c k)).0.rows
  full_bundle k None flags skip so_far h later e f = f
  full_bundle k (Some x) flags zero so_far h later e f = full_short k (arg_by_short c x) (drop (length (encode_utf8 x)) flags) h later (found_fits _ c all) e f
  full_bundle k (Some x) flags (suc skip) so_far h later e f = later (drop (length (encode_utf8 x)) flags) skip so_far h e f

  full_flags : (k : ℕ) (flags : Text) (skip : ℕ) (so_far : Outcome) (h : Held) → flags_fault c again k flags skip h ≡ [] → Full h.rows → Full (bundle_met c k flags skip so_far h).0.rows
  unfolding flags_fault bundle_met
  full_flags zero flags skip so_far h e f = f
  full_flags (suc k) flags skip so_far h e f = full_bundle k (slice_get (chars flags) 0) flags skip so_far h (λ rest skip so_far h e f. full_flags k rest skip so_far h e f) e f

  full_plain : (waiting : Waiting) (word : Text) (h : Held) → Full h.rows → Full (plain_word c waiting word h).0.rows
  full_plain idle word h f = f
  full_plain positional word h f = f
  full_plain (option id) word h f = go (arg_by_id c id)
    where
      go : (o : Option Rule) → Full (option_word o id word h).0.rows
      go None = f
      go (Some a) = f

  full_after : (waiting : Waiting) (word : Text) (h : Held) (o : Outcome) → Full h.rows → Full (after_flag c waiting word h o).0.rows
  full_after waiting word h done f = f
  full_after waiting word h (waits id) f = f
  full_after waiting word h plain f = full_plain waiting word h f
  full_after waiting word h refused f = full_plain waiting word h f

  full_word : (waiting : Waiting) (word : Text) (l : Option (Text × Option Text)) (h : Held) → flag_word_fault c again l word h ≡ [] → Full h.rows → Full (long_or_other c waiting word l h).0.rows
  full_word waiting word (Some p) h e f = full_after waiting word (long_met c (arg_by_long c p.0) p.1 h).0 (long_met c (arg_by_long c p.0) p.1 h).1 (full_long (arg_by_long c p.0) p.1 h (found_fits _ c all) e f)
  full_word waiting word None h e f = go (short_of word) e
    where
      go : (o : Option Text) → option_map_or (λ flags. flags_fault c again (length flags) flags h.skip (record h { skip = 0 })) o [] ≡ [] → Full (short_or_plain c waiting word o h).0.rows
      go None e = full_plain waiting word h f
      go (Some flags) e = full_after waiting word _ _ (full_flags (length flags) flags h.skip plain (record h { skip = 0 }) e f)

module _ (s : Shape) (names : Names) (all : Each s.rules) where
  full_other : (o : Option Text) (waiting : Waiting) (position : ℕ) (word : Text) (h : Held) → other_fault s o word h ≡ [] → Full h.rows → Full (subcommand_or_other s.rules o waiting position word h).0.rows
  full_other (Some name) waiting position word h e f = f
  full_other None waiting position word h e f = go (bytes_eq word (45 ∷ 45 ∷ [])) e
    where
      go : (b : Bool) → (if b then [] else flag_word_fault s.rules s.args_override_self (long_of word) word h) ≡ [] → Full (if b then (h, trailing position) else long_or_other s.rules waiting word (long_of word) h).0.rows
      go true e = f
      go false e = full_word s.rules all s.args_override_self waiting word (long_of word) h e f

  full_met : (is_trailing : Bool) (waiting : Waiting) (position : ℕ) (word : Text) (h : Held) → word_fault s names is_trailing waiting word h ≡ [] → Full h.rows → Full (word_met s.rules names is_trailing waiting position word h).0.rows
  full_met true waiting position word h e f = f
  full_met false waiting position word h e f = full_other (subcommand_met names waiting word) waiting position word h e f

  full_to : (a : Rule) (word : Text) (h : Held) → positional_fault s.rules s.args_override_self a h ≡ [] → Full h.rows → Full (positional_held s.rules a word h).rows
  full_to a word h e f = go (is_pending a h.pending && takes_several a) e
    where
      go : (b : Bool) → (if b then [] else settle_fault s.rules s.args_override_self h) ≡ [] → Full (pushed a.id word (if b then h else settled s.rules h)).rows
      go true e = f
      go false e = full_settled s.rules all s.args_override_self h e f

  full_step : (word : Text) (w : Walk) (h : Held) (step : Step) → step_fault s w.position h step ≡ [] → Full h.rows → Full (after_step s.rules word w h step).held.rows
  full_step word w h (next waiting) e f = f
  full_step word w h (trailing position) e f = f
  full_step word w h (subcommand name) e f = f
  full_step word w h value e f = go (arg_by_index s.rules w.position) e
    where
      go : (o : Option Rule) → option_map_or (λ a. positional_fault s.rules s.args_override_self a h) o (stray_fault s) ≡ [] → Full (to_positional s.rules o word w h).held.rows
      go None e = f
      go (Some a) e = full_to a word h e f

  full_walked : (w : Walk) (word : Text) (stopped : Option (Text × List Text)) → (if is_some stopped then [] else or_else (word_fault s names w.is_trailing w.waiting word w.held) (step_fault s w.position (word_met s.rules names w.is_trailing w.waiting w.position word w.held).0 (word_met s.rules names w.is_trailing w.waiting w.position word w.held).1)) ≡ [] → Full w.held.rows → Full (walked_from s.rules names stopped w word).held.rows
  full_walked w word (Some p) e f = f
  full_walked w word None e f =
      let p = both_pass _ _ e in
      full_step word w (word_met s.rules names w.is_trailing w.waiting w.position word w.held).0 (word_met s.rules names w.is_trailing w.waiting w.position word w.held).1 p.1 (full_met w.is_trailing w.waiting w.position word w.held p.0 f)

  full_walk : (words : List Text) (w : Walk) → walk_fault s names w words ≡ [] → Full w.held.rows → Full (fold (walked s.rules names) w words).held.rows
  unfolding walk_fault walked
  full_walk [] w e f = f
  full_walk (word ∷ rest) w e f =
      let p = both_pass _ _ e in
      full_walk rest (walked s.rules names w word) p.1 (full_walked w word w.stopped p.0 f)

-- ---- after the walk

full_default : (rows : List Row) (a : Rule) → Full rows → Full (with_default rows a)
full_default rows a f = go (has_row a.id rows) a.defaults
  where
    go : (b : Bool) (defaults : List Text) → Full (if b then rows else default_rows a.id (reading_by a) defaults rows)
    go true defaults = f
    go false [] = f
    go false (v ∷ vs) = full_with a.id (reading_by a) DefaultValue (v ∷ vs) rows (omega arith) f

full_defaults : (c : List Rule) (rows : List Row) → Full rows → Full (fold with_default rows c)
full_defaults [] rows f = f
full_defaults (a ∷ c) rows f = full_defaults c (with_default rows a) (full_default rows a f)

-- an argument that was given has a first value
abbrev HasSome : Option Row → Type 0
HasSome None = ⊤
HasSome (Some r) = 0 < length r.values

found_some : (test : Row → Bool) (rows : List Row) → Full rows → HasSome (find test rows)
found_some test [] f = tt
found_some test (r ∷ rs) f = go (test r) (found_some test rs f.1)
  where
    go : (b : Bool) → HasSome (find test rs) → HasSome (cond b (Some r) (find test rs))
    go true later = f.0
    go false later = later

first_there : (vs : List Text) → 0 < length vs → (v : Text) × (slice_get vs 0 ≡ Some v)
first_there [] h = absurd (omega arith)
first_there (v ∷ vs) h = (v, refl)

given_first : (id : Text) (rows : List Row) → Full rows → is_given id rows ≡ true → (v : Text) × (first_of id rows ≡ Some v)
given_first id rows f e = go (find (λ r. bytes_eq r.id id) rows) (found_some _ rows f) e
  where
    go : (o : Option Row) → HasSome o → option_map_or (λ r. explicit_source r.source) o false ≡ true → (v : Text) × (option_and_then (λ (r : Row). slice_get r.values 0) o ≡ Some v)
    go None h e = cc
    go (Some r) h e = first_there r.values h

-- the steps of a level that passes
record LevelPasses (s : Shape) (names : Names) (h : Held) (words : List Text) (has_subcommand : Bool) (below : Kinds) : Type 0 where
  walks : walk_fault s names (walk_from h) words ≡ []
  under : below ≡ []
  settles : settle_fault s.rules s.args_override_self (walk s.rules names h words).held ≡ []
  checks : check_fault s (finished s.rules (walk s.rules names h words).held) has_subcommand ≡ []

level_passes : (s : Shape) (names : Names) (h : Held) (words : List Text) (has_subcommand : Bool) (below : Kinds) → level_fault s names h words has_subcommand below ≡ [] → LevelPasses s names h words has_subcommand below
level_passes s names h words has_subcommand below e =
    let end : Held = (walk s.rules names h words).held in
    let settle : Kinds = settle_fault s.rules s.args_override_self end in
    let defaults : Kinds = defaults_fault (settled s.rules end).rows s.rules in
    let check : Kinds = check_fault s (finished s.rules end) has_subcommand in
    let walks = both_pass (walk_fault s names (walk_from h) words) (or_else below (or_else settle (or_else defaults check))) e in
    let under = both_pass below (or_else settle (or_else defaults check)) walks.1 in
    let settles = both_pass settle (or_else defaults check) under.1 in
    record { walks = walks.0; under = under.0; settles = settles.0; checks = (both_pass defaults check settles.1).1 }

-- ---- the commands

-- a command whose words pass, and which takes their values, asks for something
abbrev Asks : Shape → Type 0
Asks s = (words : List Text) → level_fault s [] nothing_held words false [] ≡ [] → AreTaken (Some (rows_at s words)) → (r : Request) × (request_at (rows_at s words) ≡ Some r)

-- the subcommand of this place, as it is read
abbrev in_place : ℕ → List Shape → Shape
in_place k [] = run_command
in_place zero (s ∷ ss) = s
in_place (suc k) (s ∷ ss) = in_place k ss

abbrev run_built : Shape
run_built = in_place 0 (built demosmp).subs

abbrev check_built : Shape
check_built = in_place 1 (built demosmp).subs

abbrev chart_built : Shape
chart_built = in_place 2 (built demosmp).subs

abbrev explain_built : Shape
explain_built = in_place 3 (built demosmp).subs

abbrev count_built : Shape
count_built = in_place 4 (built demosmp).subs

abbrev look_built : Shape
look_built = in_place 5 (built demosmp).subs

abbrev explore_built : Shape
explore_built = in_place 6 (built demosmp).subs

abbrev drill_built : Shape
drill_built = in_place 7 (built demosmp).subs

each_of_run : Each run_built.rules
each_of_run = (inl (refl, refl), (inl (refl, refl), (inr (inl refl), tt)))

each_of_check : Each check_built.rules
each_of_check = (inl (refl, refl), (inl (refl, refl), (inl (refl, refl), (inr (inl refl), tt))))

each_of_chart : Each chart_built.rules
each_of_chart = (inl (refl, refl), (inl (refl, refl), (inl (refl, refl), (inl (refl, refl), (inr (inl refl), tt)))))

each_of_explain : Each explain_built.rules
each_of_explain = (inl (refl, refl), (inl (refl, refl), (inl (refl, refl), (inr (inl refl), tt))))

each_of_count : Each count_built.rules
each_of_count = (inl (refl, refl), (inl (refl, refl), (inr (inl refl), tt)))

each_of_look : Each look_built.rules
each_of_look = (inl (refl, refl), (inl (refl, refl), (inl (refl, refl), (inr (inr (inr (refl, omega arith))), (inr (inl refl), tt)))))

each_of_explore : Each explore_built.rules
each_of_explore = (
  inl (refl, refl),
  (
    inl (refl, refl),
    (
      inl (refl, refl),
      (
        inr (inr (inl (refl, refl))),
        (
          inr (inr (inl (refl, refl))),
          (
            inr (inr (inl (refl, refl))),
            (
              inl (refl, refl),
              (
                inl (refl, refl),
                (inr (inr (inr (refl, omega arith))), (inl (refl, refl), (inr (inl refl), tt))),
              ),
            ),
          ),
        ),
      ),
    ),
  ),
)

one_given : (x : Bool) → check_kinds false false (not x || false) ≡ [] → x ≡ true
one_given true e = refl
one_given false e = cc

both_given : (x y : Bool) → check_kinds false false (not x || (not y || false)) ≡ [] → (x ≡ true) × (y ≡ true)
both_given true true e = (refl, refl)
both_given true false e = cc
both_given false y e = cc

two_given : (x y rest : Bool) → check_kinds false false (not x || (not y || rest)) ≡ [] → (x ≡ true) × (y ≡ true)
two_given true true rest e = (refl, refl)
two_given true false rest e = cc
two_given false y rest e = cc

-- the matches of a command
abbrev matched : Shape → List Text → List Row
matched s words = finished s.rules (walk s.rules [] nothing_held words).held

-- a command that has to name two files names them
record NamesBoth (one other : Text) (rows : List Row) : Type 0 where
  first : (v : Text) × (first_of one rows ≡ Some v)
  second : (v : Text) × (first_of other rows ≡ Some v)

names_both : (s : Shape) (one other : Text) (words : List Text) → Each s.rules
    → ((rows : List Row) → check_fault s rows false ≡ check_kinds false false (not (is_given one rows) || (not (is_given other rows) || false)))
    → level_fault s [] nothing_held words false [] ≡ [] → NamesBoth one other (matched s words)
names_both s one other words each checks e =
    let end : Held = (walk s.rules [] nothing_held words).held in
    let passes = level_passes s [] nothing_held words false [] e in
    let ends : Full end.rows = full_walk s [] each words (walk_from nothing_held) passes.walks tt in
    let full : Full (matched s words) = full_defaults s.rules (settled s.rules end).rows (full_settled s.rules each s.args_override_self end passes.settles ends) in
    let given = both_given (is_given one (matched s words)) (is_given other (matched s words)) (sym (checks (matched s words)) ∙ passes.checks) in
    record { first = given_first one (matched s words) full given.0; second = given_first other (matched s words) full given.1 }

-- so does one that has to say a third word
names_two : (s : Shape) (one other third : Text) (words : List Text) → Each s.rules
    → ((rows : List Row) → check_fault s rows false ≡ check_kinds false false (not (is_given one rows) || (not (is_given other rows) || (not (is_given third rows) || false))))
    → level_fault s [] nothing_held words false [] ≡ [] → NamesBoth one other (matched s words)
names_two s one other third words each checks e =
    let end : Held = (walk s.rules [] nothing_held words).held in
    let passes = level_passes s [] nothing_held words false [] e in
    let ends : Full end.rows = full_walk s [] each words (walk_from nothing_held) passes.walks tt in
    let full : Full (matched s words) = full_defaults s.rules (settled s.rules end).rows (full_settled s.rules each s.args_override_self end passes.settles ends) in
    let given = two_given (is_given one (matched s words)) (is_given other (matched s words)) (not (is_given third (matched s words)) || false) (sym (checks (matched s words)) ∙ passes.checks) in
    record { first = given_first one (matched s words) full given.0; second = given_first other (matched s words) full given.1 }

-- and one that has to name one file names it
names_first : (s : Shape) (one : Text) (words : List Text) → Each s.rules
    → ((rows : List Row) → check_fault s rows false ≡ check_kinds false false (not (is_given one rows) || false))
    → level_fault s [] nothing_held words false [] ≡ [] → (v : Text) × (first_of one (matched s words) ≡ Some v)
names_first s one words each checks e =
    let end : Held = (walk s.rules [] nothing_held words).held in
    let passes = level_passes s [] nothing_held words false [] e in
    let ends : Full end.rows = full_walk s [] each words (walk_from nothing_held) passes.walks tt in
    let full : Full (matched s words) = full_defaults s.rules (settled s.rules end).rows (full_settled s.rules each s.args_override_self end passes.settles ends) in
    given_first one (matched s words) full (one_given (is_given one (matched s words)) (sym (checks (matched s words)) ∙ passes.checks))

run_asks : Asks run_built
run_asks words e values =
    let names = names_both run_built (codes "boot") (codes "schedule") words each_of_run (λ rows. refl) e in
    (Run names.first.0 names.second.0, ap₂ (both_files (λ boot schedule. Run boot schedule)) names.first.1 names.second.1)

-- a command that takes a trace or labels checks them
check_there : (boot : Text) (trace labels : Option Text) → is_just_one trace labels ≡ true → (r : Request) × (checking (Some boot) trace labels ≡ Some r)
check_there boot (Some trace) None e = (Check boot trace, refl)
check_there boot None (Some labels) e = (CheckLabels boot labels, refl)
check_there boot (Some trace) (Some labels) e = cc
check_there boot None None e = cc

check_asks : Asks check_built
check_asks words e values =
    let named = names_first check_built (codes "boot") words each_of_check (λ rows. refl) e in
    let trace : Option Text = first_of (codes "trace") (matched check_built words) in
    let labels : Option Text = first_of (codes "labels") (matched check_built words) in
    let there = check_there named.0 trace labels values in
    (there.0, ap (λ (o : Option Text). checking o trace labels) named.1 ∙ there.1)

charts : (boot schedule : Text) (taken : Bool) (first last : Option ℕ) → taken ≡ true → (r : Request) × (charting (Some boot) (Some schedule) taken first last ≡ Some r)
charts boot schedule true first last e = (Chart boot schedule first last, refl)
charts boot schedule false first last e = cc

chart_asks : Asks chart_built
chart_asks words e values =
    let rows : List Row = matched chart_built words in
    let first : Option ℕ = option_and_then group_in (first_of (codes "from") rows) in
    let last : Option ℕ = option_and_then group_in (first_of (codes "to") rows) in
    let names = names_both chart_built (codes "boot") (codes "schedule") words each_of_chart (λ rows. refl) e in
    let asked = charts names.first.0 names.second.0 (takes_chart rows) first last values in
    (asked.0, ap₂ (λ x y. charting x y (takes_chart rows) first last) names.first.1 names.second.1 ∙ asked.1)

-- a boot file is named, and no schedule and trace together
explain_there : (boot : Text) (schedule trace : Option Text) → not (is_some schedule && is_some trace) ≡ true → (r : Request) × (explaining (Some boot) schedule trace ≡ Some r)
explain_there boot schedule None e = (Explain boot schedule, refl)
explain_there boot None (Some trace) e = (Judge boot trace, refl)
explain_there boot (Some schedule) (Some trace) e = cc

explain_asks : Asks explain_built
explain_asks words e values =
    let named = names_first explain_built (codes "boot") words each_of_explain (λ rows. refl) e in
    let schedule : Option Text = first_of (codes "schedule") (matched explain_built words) in
    let trace : Option Text = first_of (codes "trace") (matched explain_built words) in
    let there = explain_there named.0 schedule trace values in
    (there.0, ap (λ (o : Option Text). explaining o schedule trace) named.1 ∙ there.1)

count_asks : Asks count_built
count_asks words e values =
    let names = names_both count_built (codes "boot") (codes "schedule") words each_of_count (λ rows. refl) e in
    (Count names.first.0 names.second.0, ap₂ (both_files (λ boot schedule. Count boot schedule)) names.first.1 names.second.1)

looks : (boot schedule : Text) (groups : Option ℕ) (named : Bool) → is_some groups ≡ true → (r : Request) × (looking (Some boot) (Some schedule) groups named ≡ Some r)
looks boot schedule (Some groups) named e = (Look boot schedule groups named, refl)
looks boot schedule None named e = cc

look_asks : Asks look_built
look_asks words e values =
    let rows : List Row = matched look_built words in
    let names = names_two look_built (codes "boot") (codes "schedule") (codes "at") words each_of_look (λ rows. refl) e in
    let asked = looks names.first.0 names.second.0 (groups_of rows) (names_of rows) values in
    (asked.0, ap₂ (λ x y. looking x y (groups_of rows) (names_of rows)) names.first.1 names.second.1 ∙ asked.1)

-- a command that takes what is looked for, and the numbers and names, explores
explores : (boot : Text) (line : Option Text) (e : Option Exploration) → option_map_or (looking_for line) e false ≡ true → (r : Request) × (exploring (Some boot) line e ≡ Some r)
explores boot line (Some e) takes = (Explore boot line e, ap (λ (b : Bool). if b then Some (Explore boot line e) else None) takes)
explores boot line None takes = cc

explore_asks : Asks explore_built
explore_asks words e values =
    let rows : List Row = matched explore_built words in
    let names = names_both explore_built (codes "boot") (codes "depth") words each_of_explore (λ rows. refl) e in
    let asked = explores names.first.0 (first_of (codes "line") rows) (exploration_of rows) values in
    (asked.0, ap (λ (o : Option Text). exploring o (first_of (codes "line") rows) (exploration_of rows)) names.first.1 ∙ asked.1)

-- a command that takes the numbers of a drill does it, of a system that is drawn or of a boot file's
drawn_there : (schedule trace : Bool) (seed machines lines : Option ℕ) → is_some seed && (is_some lines && (is_some machines && not schedule)) ≡ true → (r : Request) × (run_by schedule trace seed machines lines ≡ Some r)
drawn_there false trace (Some seed) (Some machines) (Some lines) e = (Drill (record { seed = seed; machines = machines; lines = lines; trace = trace }), refl)
drawn_there true trace (Some seed) (Some machines) (Some lines) e = cc
drawn_there schedule trace (Some seed) (Some machines) None e = cc
drawn_there schedule trace (Some seed) None (Some lines) e = cc
drawn_there schedule trace (Some seed) None None e = cc
drawn_there schedule trace None machines lines e = cc

own_there : (boot : Text) (trace schedule : Bool) (seed lines : Option ℕ) → is_some seed && (is_some lines && not (trace && schedule)) ≡ true → (r : Request) × (own_by boot (shows_by trace schedule) seed lines ≡ Some r)
own_there boot false false (Some seed) (Some lines) e = (OwnDrill boot (record { seed = seed; lines = lines; shows = shows.Summary }), refl)
own_there boot true false (Some seed) (Some lines) e = (OwnDrill boot (record { seed = seed; lines = lines; shows = shows.Groups }), refl)
own_there boot false true (Some seed) (Some lines) e = (OwnDrill boot (record { seed = seed; lines = lines; shows = shows.Directives }), refl)
own_there boot true true (Some seed) (Some lines) e = cc
own_there boot trace schedule (Some seed) None e = cc
own_there boot trace schedule None lines e = cc

nothing_there : (seed lines : Option ℕ) → is_some seed && (is_some lines && false) ≡ true → ⊥
nothing_there (Some seed) (Some lines) e = cc
nothing_there (Some seed) None e = cc
nothing_there None lines e = cc

all_there : (boot machines : Option Text) (rows : List Row) → is_some (seed_of rows) && (is_some (lines_asked rows) && has_system boot machines rows) ≡ true → (r : Request) × (drill_by boot machines rows ≡ Some r)
all_there None machines rows e = drawn_there (schedule_of rows) (trace_of rows) (seed_of rows) (machines_asked rows) (lines_asked rows) e
all_there (Some boot) None rows e = own_there boot (trace_of rows) (schedule_of rows) (seed_of rows) (lines_asked rows) e
all_there (Some boot) (Some machines) rows e = absurd (nothing_there (seed_of rows) (lines_asked rows) e)

drill_asks : Asks drill_built
drill_asks words e values =
    let rows : List Row = (rows_at drill_built words).1 in
    all_there (first_of (codes "boot") rows) (first_of (codes "machines") rows) rows values

-- ---- the command line

abbrev AllAsk : List Shape → Type 0
AllAsk [] = ⊤
AllAsk (s ∷ ss) = Asks s × AllAsk ss

-- a row a command
all_ask : AllAsk (built demosmp).subs
all_ask = (run_asks, (check_asks, (chart_asks, (explain_asks, (count_asks, (look_asks, (explore_asks, (drill_asks, tt))))))))

abbrev AsksIf : Option Shape → Type 0
AsksIf None = ⊤
AsksIf (Some s) = Asks s

found_asks : (test : Shape → Bool) (ss : List Shape) → AllAsk ss → AsksIf (find test ss)
found_asks test [] all = tt
found_asks test (s ∷ ss) all = go (test s) (found_asks test ss all.1)
  where
    go : (b : Bool) → AsksIf (find test ss) → AsksIf (cond b (Some s) (find test ss))
    go true later = all.0
    go false later = later

entered_asks : (stop : Option (Text × List Text)) → is_some (entered (built demosmp) stop) ≡ true → entered_fault (built demosmp) stop ≡ [] → AreTaken (entered (built demosmp) stop) → (r : Request) × (option_and_then request_at (entered (built demosmp) stop) ≡ Some r)
entered_asks None has below values = cc
entered_asks (Some p) has below values = go (find (λ s. answers_to p.0 (label_of s)) (built demosmp).subs) (found_asks (λ s. answers_to p.0 (label_of s)) (built demosmp).subs all_ask) has below values
  where
    go : (o : Option Shape) → AsksIf o → is_some (option_map (λ s. rows_at s p.1) o) ≡ true → option_map_or (λ s. level_fault s [] nothing_held p.1 false []) o [] ≡ [] → AreTaken (option_map (λ s. rows_at s p.1) o) → (r : Request) × (option_and_then request_at (option_map (λ s. rows_at s p.1) o) ≡ Some r)
    go None asks has below values = cc
    go (Some s) asks has below values = asks p.1 below values

wants_one : (b : Bool) (rows : List Row) → check_fault (built demosmp).top rows b ≡ [] → b ≡ true
wants_one true rows e = refl
wants_one false rows e =
    let bad : kind.MissingSubcommand ∷ [] ≡ [] = e in
    cc

-- words that the command line takes ask for something
pub asked_there : (words : List Text) → fault_of demosmp words ≡ [] → AreTaken (subcommand_of demosmp words) → (r : Request) × (option_and_then request_at (subcommand_of demosmp words) ≡ Some r)
asked_there words e values =
    let stop : Option (Text × List Text) = stop_after (built demosmp).top.rules (labels_of (built demosmp)) (argument_words demosmp words) in
    let top : Shape = (built demosmp).top in
    let names : Names = labels_of (built demosmp) in
    let given : List Text = argument_words demosmp words in
    let passes = level_passes top names nothing_held given (is_some (entered (built demosmp) stop)) (entered_fault (built demosmp) stop) e in
    entered_asks stop (wants_one (is_some (entered (built demosmp) stop)) (finished top.rules (walk top.rules names nothing_held given).held) passes.checks) passes.under values

-- so nothing is asked for only where the command line doesn't take the words
pub only_refused : (words : List Text) → request_of words ≡ None → IsTaken words → ⊥
only_refused words none taken =
    let there = asked_there words taken.passes taken.values in
    let some : request_of words ≡ Some there.0 = ap (λ (kinds : Kinds). if is_empty kinds then option_and_then request_at (subcommand_of demosmp words) else None) taken.passes ∙ there.1 in
    let bad : None ≡ Some there.0 = sym none ∙ some in
    cc
