-- What a kernel's own message, a turn, and the other directives say needs nothing but for the first line.
use Rattle.dm_law_rule.proofs.Names.{◌≡◌, ℕ, List, [], ◌∷◌, ◌++◌, refl, ap, ◌∙◌, Option, None, Some, Pid, MsgId, MessageKind, Boot, Size, size_of, OneKernel, Told, Of, Here, Point, Part, Says, Transmits, sends_on, arith, View, Line, Stage, is_away, preds_of, to_kernel, length, manager, sym, true, false≢true}
use Rattle.dm_law_rule.specs.Rule as rule
use Rattle.dm_law_rule.proofs.Groups.{IsNet}
use Rattle.dm_law_rule.proofs.Lives.{Lives, Lived, lived_here}
use Rattle.dm_law_rule.proofs.Sizes.{lived_sized}
use Rattle.dm_law_rule.proofs.Rooted.Lines.{Needs}
use Rattle.dm_law_rule.proofs.Rooted.Rows.{AllLoose, First, FirstOf, round_first, forwards_first, handles_first, first_of}
use Rattle.dm_law_rule.proofs.Hearing.{by_hears}
use Rattle.dm_law_rule.proofs.Serving.{buries_kept}

-- a kernel's own message is handled
pub again_loose : (s : OneKernel) (to : ℕ) (ids : List MsgId) (ps : List Part) → AllLoose s ps → AllLoose s (sends_on to ids ++ ps)
again_loose s to [] ps h = h
again_loose s to (i ∷ is) ps h = (λ q k. tt, again_loose s to is ps h)

-- a process that is asked for is here nowhere
abbrev pub Asks : Point → Told → Type 0
Asks pt t = t.kind ≡ MessageKind.Ask → (p : Pid) → t.about ≡ Of p → pt.view.known pt.view.acting p ≡ Here → ⊥

-- a process that a burial is about is on no machine
abbrev pub BuriesAway : View → Type 0
BuriesAway v = (i : MsgId) (t : Told) (p : Pid) → v.told i ≡ Some t → t.kind ≡ MessageKind.Bury → t.about ≡ Of p → (m : ℕ) → is_away (v.known m p) ≡ true

bury_needs : (pt : Point) (i : MsgId) (t : Told) (n : ℕ) → BuriesAway pt.view → pt.view.told i ≡ Some t → t.kind ≡ MessageKind.Bury → Needs pt (Line.Buried i n)
bury_needs pt i t n aways told kind u p there about here =
    let f : t ≡ u = (let g : Some t ≡ Some u = sym told ∙ there in cc) in
    false≢true (sym (ap is_away here) ∙ aways i u p there (ap (λ (x : Told). x.kind) (sym f) ∙ kind) about pt.view.acting)

hears_first : (pt : Point) (b : Boot) (o : Point) (m : ℕ) (id : MsgId) (q : Option Told) → pt.kernel ≡ o.kernel → Lives pt.kernel pt.view → ((p : Pid) → pt.view.known pt.view.acting p ≡ o.view.known m p) → ((t : Told) → q ≡ Some t → Asks pt t) → BuriesAway pt.view → pt.view.told id ≡ q
    → FirstOf pt (rule.hears b o m id q)
hears_first pt b o m id q same lives known asks aways told = first_of pt (rule.hears b o m id q) (λ ps. by_hears (First pt) b o m id q ps (λ t is. (
    let lived : (p : Pid) (x : Size) → size_of o.kernel p ≡ Some x → Lived pt.kernel p = λ p x sized. lived_sized pt.kernel p x (ap (λ (s : OneKernel). size_of s p) same ∙ sized) in
    record {
      told = λ p x about alive due. record {
        accepted = λ ask. ((lived p x alive, asks t is ask p about), (λ z k. tt, tt));
        lacks = λ slots blocks. (tt, (λ z k. tt, tt));
        stays = λ kind none. (lived p x alive, tt);
        stays_asked = λ kind n noted. (lived p x alive, (λ z k. tt, (λ z k. tt, tt)));
        state = (tt, (λ z k. tt, tt));
        next_chunk = (tt, (λ z k. tt, tt));
        last_chunk = (tt, (λ z k. tt, tt));
        server_chunk = λ server. (tt, (λ z k. tt, (λ z k. tt, tt)));
        memory = (tt, (λ z k. tt, tt));
        next_block = (tt, (λ z k. tt, tt));
        last_block = (tt, (λ z k. tt, tt));
        left = λ ids to l. (tt, again_loose pt.kernel to ids (Says (Line.Migration Stage.Left p) ∷ to_kernel MessageKind.Restart id.from.home ∷ []) (λ z k. tt, (λ z k. tt, tt)));
        restarted = λ kind none. (lived p x alive, tt);
        restarted_asked = λ kind n noted. (lived p x alive, (λ z k. tt, (λ z k. tt, tt)));
      };
      stale = λ p about late. (tt, tt);
      buried = λ p about kind. (bury_needs pt id t (length (preds_of o m p)) aways (told ∙ is) kind, buries_kept (AllLoose pt.kernel) tt (λ to ps h. (λ z k. tt, h)) (preds_of o m p));
      updated = λ kind. (tt, tt);
      updated_none = λ kind at_. (tt, tt);
      no_move = λ at_. (tt, tt);
      leaving = λ to at_. (tt, tt);
      coming = λ from at_. (tt, tt);
      forwarded = λ to moves at_. forwards_first pt o.addresses id t.kind manager to;
      stays_here = λ at_. (tt, tt);
      frozen = λ to at_. (lived_here pt.kernel pt.view t.receiver pt.view.acting lives (known t.receiver ∙ at_.known), (λ z k. tt, (λ z k. tt, tt)));
    })))

pub turns_first : (pt : Point) (b : Boot) (o : Point) (m : ℕ) (inbox : List MsgId) → pt.kernel ≡ o.kernel → Lives pt.kernel pt.view → ((p : Pid) → pt.view.known pt.view.acting p ≡ o.view.known m p)
    → ((p : Pid) → rule.first_runnable o.kernel (o.view.queue m) (o.view.ring m) ≡ Some p → pt.view.known pt.view.acting p ≡ Here)
    → ((i : MsgId) (is : List MsgId) (t : Told) → inbox ≡ i ∷ is → o.view.told i ≡ Some t → Asks pt t) → BuriesAway pt.view → pt.view.told ≡ o.view.told → FirstOf pt (rule.turns b o m inbox)
turns_first pt b o m [] same lives known served asks aways told = round_first pt b o m (rule.first_runnable o.kernel (o.view.queue m) (o.view.ring m)) served
turns_first pt b o m (i ∷ is) same lives known served asks aways told = elim (o.kernel.bag i) as (λ q. FirstOf pt (rule.comes_to b o m i q))
    [ None ↦ hears_first pt b o m i (o.view.told i) same lives known (λ t there. asks i is t refl there) aways (ap (λ (f : MsgId → Option Told). f i) told) | Some msg ↦ handles_first pt b o m i msg lives known ]

-- the other directives
pub net_loose : (s : OneKernel) (ps : List Part) → IsNet ps → AllLoose s ps
net_loose s [] h = tt
net_loose s (Says l ∷ ps) h = (λ pt k. (let e_ : Needs pt l = search (arith, h.0) in e_), net_loose s ps h.1)
net_loose s (Transmits a b l ∷ ps) h = (λ pt k. tt, net_loose s ps h.1)
net_loose s _ h = absurd h.0
