-- A message that is routed to its own machine comes into the inbox at once.
use Rattle.dm_law_mirror.proofs.Names.{◌≡◌, ◌≢◌, ℕ, ◌+◌, ◌<◌, ◌==◌, ◌&&◌, Bool, List, [], ◌∷◌, ◌++◌, length, refl, ap, ◌∙◌, sym, subst, arith, if◌then◌else◌, Some, eqb-true, eq-eqb, nat_tests, length-append, All-push, Pid, Message, MsgId}
use Rattle.dm_law_mirror.proofs.Names.{MessageKind, IsLawfulMessage, Boot, IsLawfulState, KernelState, NodeState, with_message, at_machine, Pair, View, after_put, routed_on, Point, Placed, WorldState, AreMessages, History, NodeStands}
use Rattle.dm_law_mirror.proofs.Streams.{pair_stays, at_here, at_other, kernel_box, nodes_are, pair_here, pair_other}
use Rattle.dm_law_mirror.proofs.Deliver.Moves.{messages_push}
use Rattle.dm_law_mirror.proofs.Giving.{more_if, one_more}
use Rattle.dm_law_mirror.proofs.Route.Puts.{CoreStands}

lawful_more : (k : KernelState) (x : Message) → IsLawfulMessage x → IsLawfulState k → IsLawfulState (record k { inbox = k.inbox ++ x ∷ [] })
lawful_more k x lawful h = record { records = h.records; room = h.room; inbox = All-push IsLawfulMessage k.inbox x h.inbox lawful }

-- what the new state of a machine leaves as it was
part_if : {Y : Type 0} (g : NodeState → Y) (f : ℕ → NodeState) (m a : ℕ) (n : NodeState) (t : Bool) → (m == a) ≡ t → g n ≡ g (f m) → g (if t then n else f a) ≡ g (f a)
part_if g f m a n t e is = grind (arith, nat_tests, eqb-true)

abbrev pub node_home : NodeState → Message → NodeState
node_home n x = record (with_message n x) { home = n.home + 1 }

module _ (b : Boot) (pt : Point) (l : Placed) (w : WorldState) (h : History) (m : ℕ) (x : Message) (k : MessageKind) (q : Pid) where
  abbrev gave : View
  gave = after_put pt.view m m x.id k q

  abbrev next : Point
  next = record pt { view = gave }

  abbrev after : WorldState
  after = record w { nodes = at_machine w.nodes m (node_home (w.nodes m) x) }

  box_is : gave.inbox ≡ at_machine pt.view.inbox m (pt.view.inbox m ++ x.id ∷ [])
  box_is = ap (λ (t : Bool). if t then at_machine pt.view.inbox m (pt.view.inbox m ++ x.id ∷ []) else pt.view.inbox) (eq-eqb m m refl)

  node_more : l.bag x.id ≡ Some x → IsLawfulMessage x → NodeStands b pt l m (w.nodes m) → NodeStands b next l m (node_home (w.nodes m) x)
  node_more there lawful h = record {
    kernel = kernel_box b pt l gave m (w.nodes m).kernel ((w.nodes m).kernel.inbox ++ x ∷ []) (subst (λ (is : List MsgId). AreMessages l.bag is ((w.nodes m).kernel.inbox ++ x ∷ [])) (sym ((λ i. box_is i m) ∙ at_here pt.view.inbox m (pt.view.inbox m ++ x.id ∷ []))) (messages_push l.bag (pt.view.inbox m) (w.nodes m).kernel.inbox x.id x h.kernel.inbox there)) h.kernel;
    lawful = lawful_more (w.nodes m).kernel x lawful h.lawful;
    machines = h.machines;
    numbers = h.numbers;
    home = let e : (w.nodes m).home + 1 ≡ length ((pt.view.pair m m).ids ++ x.id ∷ []) = omega (arith, h.home, length-append (pt.view.pair m m).ids (x.id ∷ [])) in e ∙ ap (λ (p : Pair). length p.ids) (sym (pair_here pt.view.pair m m (routed_on m m (pt.view.pair m m) x.id)));
  }

  pub stands_home : m < pt.kernel.machines → (w.nodes m).home ≢ b.numbers → l.bag x.id ≡ Some x → IsLawfulMessage x → CoreStands b w pt l h → CoreStands b after next l h
  stands_home small fresh there lawful st =
      let full : length (pt.view.pair m m).ids ≢ b.numbers = let e : (w.nodes m).home ≡ length (pt.view.pair m m).ids = (st.nodes m small).home in omega (arith, e, fresh) in
      record {
        groups = st.groups;
        ended = st.ended;
        nodes = λ d few.
            nodes_are b pt l gave m w.nodes after.nodes (λ z e. at_other w.nodes m _ z e) (λ z e. (λ i. box_is i z) ∙ at_other pt.view.inbox m _ z e) (λ z e. ap (λ (p : Pair). p.ids) (pair_other pt.view.pair m m _ z z (ap (λ (t : Bool). t && (m == z)) e)))
            (subst (λ (n : NodeState). NodeStands b next l m n) (sym (at_here w.nodes m (node_home (w.nodes m) x))) (node_more there lawful (st.nodes m small)))
            d (st.nodes d few);
        pairs = λ a d few less differ.
            pair_stays b pt next l w after h h a d (record {
              sender = part_if (λ (n : NodeState). n.senders d) w.nodes m a (node_home (w.nodes m) x) (m == a) refl refl;
              receiver = part_if (λ (n : NodeState). n.receivers a) w.nodes m d (node_home (w.nodes m) x) (m == d) refl refl;
              given = refl;
              out = refl;
              back = refl;
              wire = refl;
              pair = pair_other pt.view.pair m m _ a d (grind (arith, nat_tests));
            }) (st.pairs a d few less differ);
        counts = λ a d. more_if b pt.view.pair m m a d (routed_on m m (pt.view.pair m m) x.id) ((m == a) && (m == d)) refl (one_more b (pt.view.pair m m) x (st.counts m m) full) (st.counts a d);
      }
