-- What a drill of a boot file's system promises is kept.
use Rattle.dm_cmd_count.proofs.Names.{◌≡◌, ◌⊎◌, inl, inr, ℕ, Bool, true, false, List, length, refl, subst, sym, Option, Some, None, All, IsValid, Boot, Directive, World, OwnDrill, Shows, schedule_text, RoseOrFull, appended, Carries}
use Rattle.dm_cmd_count.proofs.Names.{IsCutShort, Notion, IsFor, BlamesSink, IsWant, Status, Done, NoMemory, Decides, ends, said_same, wears_out, Kept, lack_unread, to_end, only_lack, Alone, Lasts, Wears, Around, Outside, outside}
use Rattle.dm_cmd_count.proofs.Names.{RunSaying, CountedSays, OwnIsDecided, OwnMeets, OwnRunIsDecided, OwnSays, RunOwnSays, ScheduleSays, SaysOwn, ShownSays, directives_for, own_promise, own_report}
use Rattle.dm_draw.specs.declared.drill.Shows.TheVariants as shows
use Rattle.dm_ending.specs.declared.status.Input.TheVariants as input
use Rattle.dm_cmd_count.proofs.Counted.{counted_said, counted_tells}
use Rattle.dm_cmd_count.proofs.OwnDrilling.{own_for, own_never, own_taken}

-- what is shown in some terms is shown in others to which they are carried
shown_said : (r q : Notion) (d : OwnDrill) (shown : Shows) (b : Boot) (ds : List Directive) (before after : Option (List ℕ)) (world : Option World) (s : Status) → Carries r q b ds → ShownSays r d shown b ds before after world s → ShownSays q d shown b ds before after world s
shown_said r q d shows.Summary b ds before after world s c h = counted_said r q false (own_report b d) b ds before after world s c h
shown_said r q d shows.Groups b ds before after world s c h = counted_said r q true (own_report b d) b ds before after world s c h
shown_said r q d shows.Directives b ds before after world s c h = h

own_met : {F K : Type 0} (Says More : RunSaying) (boot : List ℕ) (d : OwnDrill) (a : Around F K) (world : Option World) (s : Status)
    → ((b : Boot) (before after : Option (List ℕ)) → IsValid b → Says b (directives_for b d) before after world s → More b (directives_for b d) before after world s) → OwnMeets Says boot d a world s → OwnMeets More boot d a world s
own_met Says More boot d a world s more h = record {
  says = elim h.says [
    | inl r ↦ inl (record { system = r.system; says_boot = r.says_boot; valid = r.valid; says = more r.system _ _ r.valid r.says })
    | inr n ↦ inr n
  ];
  refuses = h.refuses;
  met = h.met;
}

-- the file decides what is done
own_run_decided : (q : Notion) (tr : Bool) (boot : List ℕ) (d : OwnDrill) (o : Outside) (s : Status) → Decides q → SaysOwn (RunOwnSays q tr d) boot d o s → BlamesSink o.writes_before o.writes_after s → OwnRunIsDecided q boot d o s
own_run_decided q tr boot d o s decides says sink = record {
  completes = λ files b told gives lasts never. elim says [
    | inl r ↦
        let same : r.system ≡ b = said_same boot o.files files r.system b told r.says_boot gives in
        let ds = directives_for r.system d in
        ends q (CountedSays q tr (own_report r.system d) r.system ds o.before o.after o.world) r.system ds o.writes_before o.writes_after s (counted_tells q tr (own_report r.system d) r.system ds o.before o.after o.world decides) r.says sink
        (subst (λ (x : Boot). Lasts q x (directives_for x d)) (sym same) lasts) never.writes
    | inr n ↦ inr (only_lack boot o.files files o.reads_before o.reads_after b s told n.why gives never.reads)
  ];
  wears = λ files b from to told gives wears never. elim says [
    | inl r ↦
        let same : r.system ≡ b = said_same boot o.files files r.system b told r.says_boot gives in
        let ds = directives_for r.system d in
        wears_out q (CountedSays q tr (own_report r.system d) r.system ds o.before o.after o.world) r.system ds o.writes_before o.writes_after s from to decides (counted_tells q tr (own_report r.system d) r.system ds o.before o.after o.world decides) r.says sink
        (subst (λ (x : Boot). Wears q x (directives_for x d) from to) (sym same) wears) never.writes
    | inr n ↦ inr (only_lack boot o.files files o.reads_before o.reads_after b s told n.why gives never.reads)
  ];
}

-- directives that are written alone
written_so : (b : Boot) (ds : List Directive) (before after : Option (List ℕ)) (world : Option World) (old new : ℕ) (s : Status) → ScheduleSays b ds before after world s → BlamesSink old new s → (RoseOrFull old new → ⊥) → (s ≡ Done) ⊎ IsWant s
written_so b ds before after world old new s h sink quiet =
    to_end ((world ≡ None) × (after ≡ appended before (schedule_text ds))) ((world ≡ None) × (after ≡ before)) ((world ≡ None) × IsCutShort before (schedule_text ds) after) (λ from to. ⊥) old new s h sink (λ from to k. k) quiet

own_decided : (q : Notion) (shown : Shows) (boot : List ℕ) (d : OwnDrill) (o : Outside) (s : Status) → Decides q → SaysOwn (ShownSays q d shown) boot d o s → BlamesSink o.writes_before o.writes_after s → OwnIsDecided q shown boot d o s
own_decided q shows.Summary boot d o s decides says sink = own_run_decided q false boot d o s decides says sink
own_decided q shows.Groups boot d o s decides says sink = own_run_decided q true boot d o s decides says sink
own_decided q shows.Directives boot d o s decides says sink = λ files b told gives never. elim says [
  | inl r ↦ written_so r.system (directives_for r.system d) o.before o.after o.world o.writes_before o.writes_after s r.says sink never.writes
  | inr n ↦ inr (only_lack boot o.files files o.reads_before o.reads_after b s told n.why gives never.reads)
]

pub own_kept : (r q : Notion) (boot : List ℕ) (d : OwnDrill) → Decides q → ((b : Boot) (ds : List Directive) → IsValid b → All (IsFor (length b.machines)) ds → Carries r q b ds) → Kept (own_promise r boot d) (own_promise q boot d)
own_kept r q boot d decides carries = record {
  carried = λ a world s h. own_met (OwnSays r d) (OwnSays q d) boot d a world s (λ b before after valid says. shown_said r q d d.shows b (directives_for b d) before after world s (carries b (directives_for b d) valid (own_for b d valid)) says) h;
  first = λ files s said h. h;
  lacks = λ a world lack h nothing. own_never (OwnSays r d) boot d a world (NoMemory lack) tt (lack_unread (Alone input.Boot boot) a world lack h nothing) h.unwritten h.no_world;
  silent = λ files lack said e. e;
  met = λ a world s h. h.met;
  taken = λ a world s h e. own_taken r boot d a world s h e;
  decided = λ a world s h. own_decided q d.shows boot d (outside a world) s decides h.says h.met.sink.blames;
}
