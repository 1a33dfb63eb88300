-- The labels of a group: what is another process's.
use Rattle.dm_law_rule.proofs.Names.{◌≡◌, ◌≢◌, ℕ, ◌+◌, List, [], ◌∷◌, refl, ⊤, Option, None, Some, Pid, pid_of, MsgId, plain_kind, PlainMessage, Boot, first_number, ends_with, OneKernel, Here, Point, label_of, Part, Says}
use Rattle.dm_law_rule.proofs.Apart.Steps.{Avoids}
use Rattle.dm_law_rule.specs.Rule as rule
use Rattle.dm_law_rule.proofs.Serving.{by_round, by_handles, by_forwards, ends_kept}

abbrev pub SparesPart : OneKernel → Pid → Part → Type 0
SparesPart z y (Says l) = Avoids z y (label_of l)
SparesPart z y _ = ⊤

abbrev pub AllApart : Pid → List Part → Type 0
AllApart y [] = ⊤
AllApart y (p ∷ ps) = ((z : OneKernel) → SparesPart z y p) × AllApart y ps

abbrev pub FirstApart : OneKernel → Pid → List Part → Type 0
FirstApart z y [] = ⊤
FirstApart z y (p ∷ ps) = SparesPart z y p × AllApart y ps

abbrev pub ApartOf : OneKernel → Pid → Option (List Part) → Type 0
ApartOf z y None = ⊤
ApartOf z y (Some ps) = FirstApart z y ps

pub apart_first : (z : OneKernel) (y : Pid) (ps : List Part) → AllApart y ps → FirstApart z y ps
apart_first z y [] h = tt
apart_first z y (p ∷ ps) h = (h.0 z, h.1)

pub apart_of : (z : OneKernel) (y : Pid) (o : Option (List Part)) → ((ps : List Part) → o ≡ Some ps → FirstApart z y ps) → ApartOf z y o
apart_of z y None h = tt
apart_of z y (Some ps) h = h ps refl

-- another process is served
ends_apart : (y : Pid) (o : Point) (m : ℕ) (p : Pid) → AllApart y (ends_with o m p)
ends_apart y o m p = ends_kept (AllApart y) tt (λ i ps h. (λ s. tt, h)) (λ to ps h. (λ s. tt, h)) o m p

pub round_apart : (z : OneKernel) (y : Pid) (b : Boot) (o : Point) (m : ℕ) (q : Option Pid) → ((p : Pid) → q ≡ Some p → p ≢ y) → ApartOf z y (rule.goes_round b o m q)
round_apart z y b o m q off = apart_of z y (rule.goes_round b o m q) (λ ps. by_round (FirstApart z y) b o m q ps (tt, tt) (λ p x is alive. record {
  runs = λ k rest stops. (
    off p is,
    stops (AllApart y) (record {
      over = tt;
      replies = λ n r. (λ s. off p is, tt);
      sends = λ id. (λ s. off p is, (λ s. tt, tt));
      waits = (λ s. off p is, tt);
      outputs = λ word. (λ s. off p is, tt);
      ends = λ w. (λ s. off p is, ends_apart y o m p);
    }),
  );
  takes = λ mask id first. (off p is, tt);
  refuses = λ id r. (off p is, tt);
}))

-- the message at the front is for another
abbrev pub ForOther : OneKernel → Pid → MsgId → Type 0
ForOther z y id = (n : PlainMessage) → z.bag id ≡ Some n → n.to ≢ y

pub handles_apart : (z : OneKernel) (y : Pid) (b : Boot) (o : Point) (m : ℕ) (id : MsgId) (msg : PlainMessage) → pid_of m (first_number + o.kernel.made m) ≢ y → (o.view.known m msg.to ≡ Here → ForOther z y id) → ApartOf z y (rule.handles b o m id msg)
handles_apart z y b o m id msg child off = apart_of z y (rule.handles b o m id msg) (λ ps. by_handles (FirstApart z y) b o m id msg ps (record {
  created = λ fixed. (child, (λ s. tt, tt));
  no_space = λ fixed slots blocks. (tt, (λ s. tt, tt));
  took = λ to sent. (off to.known, elim sent as (λ o. AllApart y (rule.routes o)) [ None ↦ tt | Some m ↦ (λ s. tt, tt) ]);
  queued = λ to user. (tt, tt);
  served = λ to mild. (off to.known, tt);
  answers = λ to mild i. (off to.known, (λ s. tt, tt));
  kills = λ to kills. (off to.known, ends_apart y o m msg.to);
  moved = λ to what. (off to.known, (λ s. tt, (λ s. tt, tt)));
  sets_off = λ machine to what apart. (off to.known, (λ s. tt, (λ s. tt, (λ s. tt, tt))));
  gone = λ to. (tt, (λ s. tt, tt));
  dropped = λ to. (tt, tt);
  leaving = λ n to. (tt, tt);
  coming = λ n to. (tt, tt);
  forwarded = λ n c to. by_forwards (FirstApart z y) o.addresses id (plain_kind msg.what) msg.sender n (tt, (λ s. tt, tt)) (tt, (λ s. tt, (λ s. tt, tt)));
}))
