-- Messages that ask for a piece of a process or bring one: what is no step of a migration leaves those that stand.
use Rattle.dm_law_moves.proofs.Names.{◌≡◌, ℕ, ◌&&◌, Bool, true, false, List, [], ◌∷◌, refl, ap, ◌∙◌, sym, inl, inr, arith, nat_tests, ⊤, Option, None, Some, left_true, Pid, MsgId, MessageKind, plain_kind, Line, Stage, View, Told, own_id}
use Rattle.dm_law_moves.proofs.Names.{view_after, after_put, Point, label_of, kernel_after, moved, OneKernel, Part, Says, Routes, Again, Owns, Transmits, Spelled, spelled, is_between, PairsFit, PacketsKeep, fits_put, fits_packet, Calm, Tame}
use Rattle.dm_law_moves.proofs.Names.{Sane, Sayable, AllSayable, line_calm, plain_in_bag, left_off, touches, Receiver, is_about, stales, put_calm, tame_kind, plain_not}
use Rattle.dm_law_moves.proofs.Leading.{All, Behind, sane_lead, line_fits}
use Rattle.dm_law_moves.proofs.Stages.Spares.{is_piece}
use Rattle.dm_law_moves.proofs.Burials.{buried_spots}
use Rattle.dm_law_moves.proofs.Ends.Parts.{Smooth, hushed_smooth, SparesBag, Plain, label_smooth, moves_none, smooth_trans, smooth_about, put_smooth, packet_smooth, own_untold, part_count, none_count}
use Rattle.dm_law_moves.proofs.Stales.Weighs.{takes_on, takes_all}

-- a message that asks for a piece of this process, or brings one
abbrev pub piece_for : Pid → Told → Bool
piece_for p t = is_piece t.kind && is_about p t.about

pub piece_between : (p : Pid) (t : Told) → piece_for p t ≡ true → is_between t.kind ≡ true
piece_between p t e =
    let kind_between : (k : MessageKind) → is_piece k ≡ true → is_between k ≡ true = λ k e. grind (arith, nat_tests) in
    kind_between t.kind (left_true (is_piece t.kind) (is_about p t.about) e)

pub no_piece_for : (p : Pid) (t : Told) → is_piece t.kind ≡ false → piece_for p t ≡ false
no_piece_for p t e = ap (λ (c : Bool). c && is_about p t.about) e

pub plain_piece : (k : MessageKind) → is_between k ≡ false → is_piece k ≡ false
plain_piece k e = grind (arith, nat_tests)

-- what leaves all migrations as they are
pub calm_smooth : (p : Pid) (v w : View) → Calm v w → Smooth (piece_for p) v w
calm_smooth p v w c = record {
  kept = c.kept;
  fresh = λ i t e a. c.fresh i t e (piece_between p t a);
  on = λ i t e a s. c.on i t e (piece_between p t a) s.0 s.1;
  back = λ i t e a s. elim (c.back i t e (piece_between p t a) s.0 s.1) [ inl st ↦ (s.0, st) | inr x ↦ (let (y, st, is) = x in (y, st)) ];
}

-- no message of the bag is one
pieces_outside : (p : Pid) (pt : Point) → Sane pt → SparesBag (piece_for p) pt
pieces_outside p pt h i x there t told = no_piece_for p t (plain_piece t.kind (plain_in_bag pt i x h there t told))

-- lines that are no step of a migration, and those of steps 2 and 7, which handle no message
abbrev pub SlightLine : View → Line → Type 0
SlightLine v (Line.Idle m) = ⊤
SlightLine v (Line.Label l) = ⊤
SlightLine v (Line.Queued i) = Tame v i
SlightLine v (Line.Held i) = Tame v i
SlightLine v (Line.Forwarded i m) = Tame v i
SlightLine v (Line.Updated i n) = Tame v i
SlightLine v (Line.Buried i n) = Tame v i
SlightLine v (Line.Here i) = Tame v i
SlightLine v (Line.NoMove i) = Tame v i
SlightLine v (Line.NoChild q) = ⊤
SlightLine v (Line.NoCall q) = ⊤
SlightLine v Line.Away = ⊤
SlightLine v (Line.Migration Stage.Asked q) = ⊤
SlightLine v (Line.Migration Stage.Left q) = ⊤
SlightLine v _ = ⊥

slight_smooth : (p : Pid) (pt : Point) (s : OneKernel) (l : Line) → Sane pt → SlightLine pt.view l → kernel_after pt.kernel (label_of l) ≡ Some s → Smooth (piece_for p) pt.view (view_after pt.view l)
slight_smooth p pt s (Line.Label l) h slight is = label_smooth (piece_for p) pt s l (pieces_outside p pt h) is
slight_smooth p pt s (Line.Migration Stage.Left q) h slight is = moves_none (piece_for p) pt.view (Line.Migration Stage.Left q) refl (left_off pt.view q)
slight_smooth p pt s (Line.Migration Stage.Asked q) h slight is = calm_smooth p pt.view pt.view (line_calm pt s (Line.Migration Stage.Asked q) h tt is)
slight_smooth p pt s (Line.Idle m) h slight is = calm_smooth p pt.view pt.view (line_calm pt s (Line.Idle m) h tt is)
slight_smooth p pt s (Line.NoChild q) h slight is = calm_smooth p pt.view pt.view (line_calm pt s (Line.NoChild q) h tt is)
slight_smooth p pt s (Line.NoCall q) h slight is = calm_smooth p pt.view pt.view (line_calm pt s (Line.NoCall q) h tt is)
slight_smooth p pt s Line.Away h slight is = calm_smooth p pt.view pt.view (line_calm pt s Line.Away h tt is)
slight_smooth p pt s (Line.Queued i) h tame is = calm_smooth p pt.view (view_after pt.view (Line.Queued i)) (line_calm pt s (Line.Queued i) h tame is)
slight_smooth p pt s (Line.Held i) h tame is = calm_smooth p pt.view (view_after pt.view (Line.Held i)) (line_calm pt s (Line.Held i) h tame is)
slight_smooth p pt s (Line.Forwarded i m) h tame is = calm_smooth p pt.view (view_after pt.view (Line.Forwarded i m)) (line_calm pt s (Line.Forwarded i m) h tame is)
slight_smooth p pt s (Line.Updated i n) h tame is = calm_smooth p pt.view (view_after pt.view (Line.Updated i n)) (line_calm pt s (Line.Updated i n) h tame is)
slight_smooth p pt s (Line.Buried i n) h tame is = hushed_smooth (piece_for p) pt.view (Line.Buried i n) i refl (λ t told. no_piece_for p t (plain_piece t.kind (tame_kind pt.view i t tame told))) (λ j e z. buried_spots pt.view i j n e z)
slight_smooth p pt s (Line.Here i) h tame is = calm_smooth p pt.view (view_after pt.view (Line.Here i)) (line_calm pt s (Line.Here i) h tame is)
slight_smooth p pt s (Line.NoMove i) h tame is = calm_smooth p pt.view (view_after pt.view (Line.NoMove i)) (line_calm pt s (Line.NoMove i) h tame is)
slight_smooth p pt s _ h slight is = absurd slight

-- parts
abbrev pub Slight : View → Part → Type 0
Slight v (Says l) = SlightLine v l
Slight v (Again i b) = Tame v i
Slight v (Owns k q b) = is_piece k ≡ false
Slight v _ = ⊤

abbrev pub AllSlight : View → List Part → Type 0
AllSlight v = All (Slight v)

-- what was told stays
pub tame_on : (p : Pid) (v w : View) (i : MsgId) → Smooth (piece_for p) v w → Tame v i → Tame w i
tame_on p v w i c h = record { what = h.what; told = c.kept i h.what h.told; plain = h.plain }

slight_on : (p : Pid) (v w : View) (l : Line) → Smooth (piece_for p) v w → SlightLine v l → SlightLine w l
slight_on p v w l c h = search (arith, tame_on)

pub record Past (p : Pid) (v : View) (pt : Point) : Type 0 where
  pub smooth : Smooth (piece_for p) v pt.view
  pub fits : PairsFit pt.view

pub past_packet : (p : Pid) (v : View) → PacketsKeep (Past p v)
past_packet p v q a b k l h = record { smooth = smooth_trans (piece_for p) v q.view (view_after q.view (Line.Packet a b k l)) h.smooth (packet_smooth (piece_for p) q.view a b k l); fits = fits_packet q.view a b k l h.fits }

plain_put : (p : Pid) (v : View) (pt : Point) (b : ℕ) (i : MsgId) (k : MessageKind) (q : Pid) → Past p v pt → is_between k ≡ false → ((t : Told) → pt.view.told i ≡ Some t → is_between t.kind ≡ false) → Past p v (moved pt (Line.Put pt.view.acting b i k q) pt.kernel)
plain_put p v pt b i k q h plain was = record {
  smooth = smooth_trans (piece_for p) v pt.view (after_put pt.view pt.view.acting b i k q) h.smooth (calm_smooth p pt.view (after_put pt.view pt.view.acting b i k q) (put_calm pt.view pt.view.acting b i k q h.fits plain was));
  fits = fits_put pt.view pt.view.acting b i k q h.fits;
}

pub past_behind : (p : Pid) (v : View) (pt : Point) (x : Part) → Slight v x → Sayable x → Sane pt → Past p v pt → Behind (Past p v) pt x
past_behind p v pt (Says l) slight ok sane h = λ s step.
    let slight_touches : (v : View) (l : Line) → SlightLine v l → touches l ≡ false = λ v l h. grind (arith, nat_tests) in
    record {
      smooth = smooth_about (piece_for p) v (view_after pt.view l) (moved pt l s).view.topic (smooth_trans (piece_for p) v pt.view (view_after pt.view l) h.smooth (slight_smooth p pt s l sane (slight_on p v pt.view l h.smooth slight) step));
      fits = line_fits pt s l (slight_touches v l slight) h.fits;
    }
past_behind p v pt (Routes i) slight ok sane h = λ m there. plain_put p v pt (pt.addresses (Receiver i)).at i (plain_kind m.what) m.to h (plain_not m.what) (plain_in_bag pt i m sane there)
past_behind p v pt (Again i b) slight ok sane h = λ t there.
    let tame = tame_on p v pt.view i h.smooth slight in
    plain_put p v pt b i t.kind t.receiver h (tame_kind pt.view i t tame there) (λ u told. tame_kind pt.view i u tame told)
past_behind p v pt (Owns k q b) none ok sane h =
    let i = own_id pt.view in
    let untold : Plain (piece_for p) pt.view i = λ t told. absurd (let f : None ≡ Some t = sym (own_untold pt sane) ∙ told in cc) in
    record {
      smooth = smooth_trans (piece_for p) v pt.view (after_put pt.view pt.view.acting b i k q) h.smooth (put_smooth (piece_for p) pt.view pt.view.acting b i k q h.fits (no_piece_for p (record { kind = k; receiver = q; about = pt.view.topic }) none) untold);
      fits = fits_put pt.view pt.view.acting b i k q h.fits;
    }
past_behind p v pt (Transmits a b l) slight ok sane h = h

pub slight_sayable : (v : View) (ps : List Part) → AllSlight v ps → AllSayable ps
slight_sayable v [] h = tt
slight_sayable v (x ∷ ps) h =
    let sayable_of : (v : View) (x : Part) → Slight v x → Sayable x = λ v x h. grind (arith, nat_tests) in
    (sayable_of v x h.0, slight_sayable v ps h.1)

pub parts_smooth : (p : Pid) (v : View) (ps : List Part) (pt : Point) (w : Spelled) → AllSlight v ps → Smooth (piece_for p) v pt.view → Sane pt → PairsFit pt.view → spelled pt ps ≡ Some w → Smooth (piece_for p) v w.point.view
parts_smooth p v ps pt w slight smooth sane fits e =
    (sane_lead (Past p v) (past_packet p v) (Slight v) (past_behind p v) ps pt w slight (slight_sayable v ps slight) sane e (record { smooth = smooth; fits = fits })).smooth

-- nor do their lines count
pub slight_counts : (v : View) (f : MsgId → Option Told) (p : Pid) (ps : List Part) → AllSlight v ps → (part_count (takes_on p) ps ≡ 0) × (part_count (takes_all p) ps ≡ 0) × (part_count (stales f p) ps ≡ 0)
slight_counts v f p ps h = (
  none_count (takes_on p) (Slight v) (λ l q. (let e_ : takes_on p l ≡ false = grind (arith, nat_tests) in e_)) ps h,
  none_count (takes_all p) (Slight v) (λ l q. (let e_ : takes_all p l ≡ false = grind (arith, nat_tests) in e_)) ps h,
  none_count (stales f p) (Slight v) (λ l q. (let e_ : stales f p l ≡ false = grind (arith, nat_tests) in e_)) ps h,
)
