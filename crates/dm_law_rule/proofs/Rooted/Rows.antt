-- What the first line of a group needs, and that the others need nothing.
use Rattle.dm_law_rule.proofs.Names.{◌≡◌, ℕ, List, [], ◌∷◌, refl, ⊤, Option, None, Some, Pid, MsgId, MessageKind, plain_kind, PlainMessage, Boot, Here, Addresses, Point, Part, Says, forwards_on, OneKernel, ◌∙◌, ends_with}
use Rattle.dm_law_rule.specs.Rule as rule
use Rattle.dm_law_rule.proofs.Lives.{Kept, Lives, lived_here}
use Rattle.dm_law_rule.proofs.Rooted.Lines.{Needs}
use Rattle.dm_law_rule.proofs.Serving.{by_round, by_handles, by_forwards, ends_kept}

abbrev pub NeedsPart : Point → Part → Type 0
NeedsPart pt (Says l) = Needs pt l
NeedsPart pt _ = ⊤

-- wherever what this kernel has made is made
abbrev pub AllLoose : OneKernel → List Part → Type 0
AllLoose s [] = ⊤
AllLoose s (p ∷ ps) = ((pt : Point) → Kept s pt.kernel → NeedsPart pt p) × AllLoose s ps

abbrev pub First : Point → List Part → Type 0
First pt [] = ⊤
First pt (p ∷ ps) = NeedsPart pt p × AllLoose pt.kernel ps

abbrev pub FirstOf : Point → Option (List Part) → Type 0
FirstOf pt None = ⊤
FirstOf pt (Some ps) = First pt ps

loose_later : (s t : OneKernel) (ps : List Part) → Kept s t → AllLoose s ps → AllLoose t ps
loose_later s t [] kept h = tt
loose_later s t (p ∷ ps) kept h = (λ pt k. h.0 pt (λ q none. kept q (k q none)), loose_later s t ps kept h.1)

pub loose_first : (s : OneKernel) (pt : Point) (ps : List Part) → Kept s pt.kernel → AllLoose s ps → First pt ps
loose_first s pt [] kept h = tt
loose_first s pt (p ∷ ps) kept h = (h.0 pt kept, loose_later s pt.kernel ps kept h.1)

pub first_of : (pt : Point) (o : Option (List Part)) → ((ps : List Part) → o ≡ Some ps → First pt ps) → FirstOf pt o
first_of pt None h = tt
first_of pt (Some ps) h = h ps refl

-- a process is served
ends_loose : (s : OneKernel) (o : Point) (m : ℕ) (p : Pid) → AllLoose s (ends_with o m p)
ends_loose s o m p = ends_kept (AllLoose s) tt (λ i ps h. (λ pt k. tt, h)) (λ to ps h. (λ pt k. tt, h)) o m p

pub round_first : (pt : Point) (b : Boot) (o : Point) (m : ℕ) (q : Option Pid) → ((p : Pid) → q ≡ Some p → pt.view.known pt.view.acting p ≡ Here) → FirstOf pt (rule.goes_round b o m q)
round_first pt b o m q here = first_of pt (rule.goes_round b o m q) (λ ps. by_round (First pt) b o m q ps (tt, tt) (λ p x is alive. record {
  runs = λ k rest stops. (
    here p is,
    stops (AllLoose pt.kernel) (record {
      over = tt;
      replies = λ n r. (λ z k. tt, tt);
      sends = λ id. (λ z k. tt, (λ z k. tt, tt));
      waits = (λ z k. tt, tt);
      outputs = λ word. (λ z k. tt, tt);
      ends = λ y. (λ z k. tt, ends_loose pt.kernel o m p);
    }),
  );
  takes = λ mask id first. (here p is, tt);
  refuses = λ id r. (here p is, tt);
}))

pub forwards_first : (pt : Point) (a : Addresses) (id : MsgId) (k : MessageKind) (sender : Pid) (to : ℕ) → First pt (forwards_on a id k sender to)
forwards_first pt a id k sender to = by_forwards (First pt) a id k sender to (tt, (λ q k. tt, tt)) (tt, (λ q k. tt, (λ q k. tt, tt)))

pub handles_first : (pt : Point) (b : Boot) (o : Point) (m : ℕ) (id : MsgId) (msg : PlainMessage) → Lives pt.kernel pt.view → ((p : Pid) → pt.view.known pt.view.acting p ≡ o.view.known m p) → FirstOf pt (rule.handles b o m id msg)
handles_first pt b o m id msg lives known =
    -- a message of the bag is handled
    let routes_loose : (s : OneKernel) (o : Option PlainMessage) → AllLoose s (rule.routes o) = λ s o. elim o as (λ o_. AllLoose s (rule.routes o_)) [ None ↦ tt | Some m' ↦ (λ pt k. tt, tt) ] in
    first_of pt (rule.handles b o m id msg) (λ ps. by_handles (First pt) b o m id msg ps (record {
      created = λ fixed. (tt, (λ q k. tt, tt));
      no_space = λ fixed slots blocks. (tt, (λ q k. tt, tt));
      took = λ fixed sent. (tt, routes_loose pt.kernel sent);
      queued = λ to user. (tt, tt);
      served = λ to mild. (tt, tt);
      answers = λ to mild i. (tt, (λ q k. tt, tt));
      kills = λ to kills. (tt, ends_loose pt.kernel o m msg.to);
      moved = λ to what. (tt, (λ q k. tt, (λ q k. tt, tt)));
      sets_off = λ machine to what apart. (tt, (λ q k none le. lived_here pt.kernel pt.view msg.to pt.view.acting lives (known msg.to ∙ to.known) (k msg.to none) le, (λ q k. tt, (λ q k. tt, tt))));
      gone = λ to. (tt, (λ q k. tt, tt));
      dropped = λ to. (tt, tt);
      leaving = λ n to. (tt, tt);
      coming = λ n to. (tt, tt);
      forwarded = λ n c to. forwards_first pt o.addresses id (plain_kind msg.what) msg.sender n;
    }))
