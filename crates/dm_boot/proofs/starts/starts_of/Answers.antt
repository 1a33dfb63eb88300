use Rattle.dm_boot.proofs.Imports.{◌≡◌, ◌+◌, ◌*◌, ◌≤◌, ◌<◌, true, false, [], ◌∷◌, ◌++◌, length, get_or, drop, slice_get, home_of, refl, ap, sym, ◌∙◌, arith, common_steps, items_view, view, blocks_at, blocks_of_image, starting_at, ProcessRoom, count}
use Rattle.dm_boot.proofs.Imports.{first_failing, process_tables, starts_from, starts_of, fits_after, has_place}
use Rattle.std.proofs.Common.{rules}
use Rattle.dm_boot.proofs.Elements.{count-view, failing-end}
use Rattle.dm_boot.proofs.Texts.{kept-here, broken-here}
use Rattle.dm_boot.proofs.Placed.{Step, step-kept, step-broken, step-built, starts-end}
use Rattle.dm_boot.proofs.Counted.{starting_below, below-one, below-most, slots-push, blocks-push, counts-none, counts-push, started-counted, fits-counted}
use Rattle.dm_boot.proofs.starts.starts_of.Goals as goal

pub loop-i-init : goal.loop-i-init
unfolding starts_of
loop-i-init c =
    let none : c.new-starts.result ≡ [] = c.new-starts.ensures in
    record {
      places = refl;
      built = rw (none, c.items_at-tables.ensures) refl;
      many = ap length none;
      homes = ap (starting_below 16) none;
      slots = λ m. rw none (omega arith);
      blocks = λ m. rw none (omega arith);
      counts = rw none (counts-none c.new-taken.result c.args.images.now c.new-taken.ensures.slots c.new-taken.ensures.blocks);
    }

pub returns-then-not-fits_machine-clause-starts : goal.returns-then-not-fits_machine-clause-starts
returns-then-not-fits_machine-clause-starts c =
    let d = view c.args.document.now.top.now in
    let vs = c.items_at-tables.result.now in
    let i = c.loop-i.i in
    let rest = starts_from d c.loop-i.starts (items_view (drop i vs)) in
    let step : Step d c.args.machines.now c.args.images.now c.loop-i.starts rest vs i c.index-tables-i.result c.start_of-start.result = record {
      machines_are = c.requires.machines;
      images_are = c.requires.images;
      whole = c.loop-i.invariant.built;
      many = c.loop-i.invariant.many;
      within = c.loop-i-test.true;
      read = c.index-tables-i.is;
      start = c.start_of-start.ensures.start ∙ started-counted d c.loop-i.starts (view c.index-tables-i.result) _ (c.loop-i.invariant.counts.slots (home_of (view c.index-tables-i.result)));
    } in
    let fails : fits_after c.args.machines.now c.args.images.now c.loop-i.starts c.start_of-start.result ≡ false =
    sym (fits-counted c.args.machines.now c.loop-i.taken c.args.images.now c.loop-i.starts c.start_of-start.result c.blocks_of_image-more.result c.loop-i.invariant.counts c.blocks_of_image-more.ensures.blocks)
    ∙ sym c.fits_machine.ensures.fits ∙ c.if-not-fits_machine.true in
    broken-here ProcessRoom (first_failing (has_place d) 0 (process_tables d)) (starts_of d) i
    (ap (first_failing (has_place d) 0) (sym c.items_at-tables.ensures) ∙ sym c.loop-i.invariant.places ∙ step-broken step fails)

pub loop-i-preserved : goal.loop-i-preserved
loop-i-preserved c =
    let d = view c.args.document.now.top.now in
    let vs = c.items_at-tables.result.now in
    let i = c.loop-i.i in
    let s = c.start_of-start.result in
    let rest = starts_from d c.loop-i.starts (items_view (drop i vs)) in
    let step : Step d c.args.machines.now c.args.images.now c.loop-i.starts rest vs i c.index-tables-i.result s = record {
      machines_are = c.requires.machines;
      images_are = c.requires.images;
      whole = c.loop-i.invariant.built;
      many = c.loop-i.invariant.many;
      within = c.loop-i-test.true;
      read = c.index-tables-i.is;
      start = c.start_of-start.ensures.start ∙ started-counted d c.loop-i.starts (view c.index-tables-i.result) _ (c.loop-i.invariant.counts.slots (home_of (view c.index-tables-i.result)));
    } in
    let counts = c.loop-i.invariant.counts in
    let more = c.blocks_of_image-more.ensures.blocks in
    let passes : c.fits_machine.result ≡ true = c.if-not-fits_machine.false in
    let fits : fits_after c.args.machines.now c.args.images.now c.loop-i.starts s ≡ true =
    sym (fits-counted c.args.machines.now c.loop-i.taken c.args.images.now c.loop-i.starts s c.blocks_of_image-more.result counts more) ∙ sym c.fits_machine.ensures.fits ∙ passes in
    let free : get_or c.loop-i.taken.slots s.pid.home 0 < 255 = search rules in
    let left : get_or c.loop-i.taken.blocks s.pid.home 0 + c.blocks_of_image-more.result ≤ 65535 = search rules in
    let room : starting_at s.pid.home c.loop-i.starts < 255 = rw (← counts.slots s.pid.home) free in
    let blocks : blocks_at s.pid.home c.args.images.now c.loop-i.starts + blocks_of_image (slice_get c.args.images.now s.image) ≤ 65535 = rw (← counts.blocks s.pid.home, ← more) left in
    let new : c.push.new.self ≡ c.loop-i.starts ++ s ∷ [] = search rules in
    rw new (record {
      places = sym (step-kept step fits) ∙ c.loop-i.invariant.places;
      built = sym (step-built step) ∙ c.loop-i.invariant.built;
      many = grind (arith, common_steps);
      homes = below-one 16 c.loop-i.starts s (omega (arith, c.start_of-start.ensures.home)) ∙ ap (λ n. n + 1) c.loop-i.invariant.homes;
      slots = slots-push c.loop-i.starts s c.loop-i.invariant.slots room;
      blocks = blocks-push c.args.images.now c.loop-i.starts s c.loop-i.invariant.blocks blocks;
      counts = counts-push c.loop-i.taken c.add.new.self c.args.images.now c.loop-i.starts s c.blocks_of_image-more.result counts c.start_of-start.ensures.home more c.add.ensures.slots c.add.ensures.blocks;
    })

pub returns-clause-starts : goal.returns-clause-starts
returns-clause-starts c =
    let d = view c.args.document.now.top.now in
    let vs = c.items_at-tables.result.now in
    let past : length vs ≤ c.loop-i.i = c.loop-i-test.false in
    let same : starts_of d ≡ c.loop-i.starts = sym c.loop-i.invariant.built ∙ starts-end d c.loop-i.starts vs c.loop-i.i past in
    rw (← same)
    (kept-here ProcessRoom (first_failing (has_place d) 0 (process_tables d)) (starts_of d)
    (ap (first_failing (has_place d) 0) (sym c.items_at-tables.ensures) ∙ sym c.loop-i.invariant.places ∙ failing-end (has_place d) vs c.loop-i.i past))

pub returns-clause-few : goal.returns-clause-few
returns-clause-few c =
    let d = view c.args.document.now.top.now in
    let vs = c.items_at-tables.result.now in
    let same : count (process_tables d) ≡ length vs = ap count (sym c.items_at-tables.ensures) ∙ count-view vs in
    let most : starting_below 16 c.loop-i.starts ≤ 255 * 16 = below-most 16 c.loop-i.starts c.loop-i.invariant.slots in
    omega (arith, c.loop-i-test.false, c.loop-i.invariant.homes)
