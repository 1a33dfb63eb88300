-- A process that a kernel makes, with places: it begins with the links that its request brought.
use Rattle.dm_law_places.proofs.Names.{◌≡◌, ℕ, zero, suc, ◌+◌, ◌-◌, ◌&&◌, List, [], ◌∷◌, ◌++◌, length, refl, ap, ◌∙◌, sym, subst, arith, map, option_map, slice_get, replicate, Option, None, Some, length-map, slice_get-map, Pid, Link, pid_eq}
use Rattle.dm_law_places.proofs.Names.{pid_of, PlainLink, plain_link, link_at, plain_slot, MsgId, Message, What, Label, PlainMessage, PlainWhat, plain_message, plain_what, begun_process, Format, BootImage, first_number, slots_of, bind, Alive}
use Rattle.dm_law_places.proofs.Names.{OneKernel, plain_process, answer_id, answer_to, memory_of, slots_with, answer, bind-is, when-is, View, Addresses, Gets, Sender, answer_gets, given, gives, unmoved, two, child_at, only_child, child_links}
use Rattle.dm_law_places.proofs.Names.{Placed, Mirrors, MirrorsMessage, MirrorsProcess, enclosed, with_child, with_sent, without_message, nat_tests, none_some}
use Rattle.dm_law_places.proofs.Keeps.{kernel_out, kernel_process, parts, places_out, places_process, there_of, this_process}
use Rattle.dm_law_places.proofs.Labels.Acts.{Follows}
use Rattle.dm_law_places.proofs.Labels.Answers.{two_sends}
use Rattle.dm_law_places.proofs.Whats.{create_what}
use Rattle.dm_onekernel.specs.Kernel as kernels
use Rattle.dm_onekernel.specs.Service as service
use Rattle.dm_onekernel.specs.Start as one
use Rattle.dm_onekernel.specs.Step as kernel
use Rattle.dm_law_rule.specs.Addresses as addresses
use Rattle.dm_law_places.specs.PlacedStep as placed

-- the slots of a process as it begins
pub begun_link : (links : List Link) (n k : ℕ) (w : Link) → link_at (map Some links ++ replicate n None) k ≡ Some w → slice_get links k ≡ Some w
begun_link [] zero k w e = none_some w e
begun_link [] (suc n) zero w e = none_some w e
begun_link [] (suc n) (suc k) w e = begun_link [] n k w e
begun_link (x ∷ xs) n zero w e = e
begun_link (x ∷ xs) n (suc k) w e = begun_link xs n k w e

slots_plainly : (links : List Link) (n : ℕ) → map Some (map plain_link links) ++ replicate n None ≡ map plain_slot (map Some links ++ replicate n None)
slots_plainly [] zero = refl
slots_plainly [] (suc n) = ap (λ (t : List (Option PlainLink)). None ∷ t) (slots_plainly [] n)
slots_plainly (w ∷ ws) n = ap (λ (t : List (Option PlainLink)). Some (plain_link w) ∷ t) (slots_plainly ws n)

table_plainly : (slots : ℕ) (links : List Link) → slots_with slots (map plain_link links) ≡ map plain_slot (slots_with slots links)
table_plainly slots links =
    ap (λ (n : ℕ). map Some (map plain_link links) ++ replicate (slots - n) None) (length-map links plain_link) ∙ slots_plainly links (slots - length links)

pub begun_plainly : (f : Format) (p : Pid) (image : BootImage) (links : List Link) → one.begun f image (map plain_link links) ≡ plain_process (begun_process p (memory_of image) (slots_with (slots_of f) links))
begun_plainly f p image links = search (arith, table_plainly)

begun_mirrors : (s : OneKernel) (v : View) (a : Addresses) (l : Placed) (id : MsgId) (m : Message) (child : Pid) (image : BootImage) (links : List Link) → v.moves child ≡ 0 → MirrorsMessage a id m → enclosed m.what ≡ links → Mirrors s v a l
    → Mirrors (service.with_created (service.without_message s id) child image (map plain_link links)) v (given a (child_links a child id 0 (map plain_link links))) (with_child (without_message l id) s.format child image links)
begun_mirrors s v a l id m child image links none hm is h =
    let ls = map plain_link links in
    let b = given a (child_links a child id 0 ls) in
    let o = only_child a child id ls 0 in
    let y = begun_process child (memory_of image) (slots_with (slots_of s.format) links) in
    let hy : MirrorsProcess v b child y = record {
      pid = refl;
      moves = sym none;
      slots = λ k w e.
          let f = begun_link links (slots_of s.format - length links) k w e in
          child_at a child id ls 0 k k (plain_link w) (slice_get-map plain_link links k ∙ ap (option_map plain_link) f) (omega arith) ∙ hm.enclosed k w (ap (λ (ws : List Link). slice_get ws k) is ∙ f);
      owner = λ q e. absurd (let f : None ≡ Some q = e in cc);
    } in
    let k = kernel_process (service.without_message s id) (without_message l id) child (Alive (one.begun s.format image ls)) (Some y) (ap Some (begun_plainly s.format child image links)) (kernel_out s l id h.plain) in
    search (arith, places_process, places_out, this_process)

created_row : (s t : OneKernel) (v : View) (a : Addresses) (l : Placed) (id : MsgId) (m : Message) (k : PlainMessage) (child : Pid) (image : BootImage) (links : List Link) → service.creates_of s id k child (map plain_link links) image ≡ Some t → v.moves child ≡ 0
    → MirrorsMessage a id m → plain_message m ≡ Some k → enclosed m.what ≡ links → Mirrors s v a l
    → Mirrors t v (given a (answer_gets a id (unmoved v.acting) ++ child_links a child id 0 (map plain_link links))) (with_sent (with_child (without_message l id) s.format child image links) (Some (answer v.acting 0 m (What.Created child))))
created_row s t v a l id m k child image links is none hm says links_are h =
    let ls = map plain_link links in
    let u = service.with_created (service.without_message s id) child image ls in
    let b = given a (child_links a child id 0 ls) in
    let n = answer v.acting 0 m (What.Created child) in
    let q = answer_to k (PlainWhat.Created child) in
    let z = when-is (service.is_kernel s k.to && pid_eq child (pid_of k.to.home (first_number + s.made k.to.home))) (kernels.with_sent u (Some q)) t is in
    let on = with_child (without_message l id) s.format child image links in
    let sent : Mirrors (kernels.with_sent u (Some q)) v (given b (two n.id (a (Sender id)) (unmoved v.acting))) (with_sent on (Some n)) =
    two_sends u v b on n q (a (Sender id)) (unmoved v.acting) (grind (arith, nat_tests, parts)) refl hm.sender refl (begun_mirrors s v a l id m child image links none hm links_are h) in
    subst (λ (w : OneKernel). Mirrors w v (given a (answer_gets a id (unmoved v.acting) ++ child_links a child id 0 ls)) (with_sent on (Some n))) z.1
    (subst (λ (i : MsgId). Mirrors (kernels.with_sent u (Some q)) v (given a (two (answer_id i) (a (Sender id)) (unmoved v.acting) ++ child_links a child id 0 ls)) (with_sent on (Some n))) hm.id sent)

creates_row : (s t : OneKernel) (v : View) (a : Addresses) (l : Placed) (id : MsgId) (m : Message) (k : PlainMessage) (child : Pid) (u : PlainWhat) → plain_what m.what ≡ Some u → service.creates s id k child u ≡ Some t → v.moves child ≡ 0 → MirrorsMessage a id m
    → plain_message m ≡ Some k → Mirrors s v a l → Follows t v (given a (answer_gets a id (unmoved v.acting) ++ addresses.child_gets a id child u)) (placed.creates v.acting s.format s.images (without_message l id) m child m.what)
creates_row s t v a l id m k child (PlainWhat.Create number ls) u is none hm says h =
    let w = create_what m.what number ls u in
    let links = w.links.items in
    let (image, image_is, last) = bind-is (slice_get s.images number) (service.creates_of s id k child ls) t is in
    let on = with_sent (with_child (without_message l id) s.format child image links) (Some (answer v.acting 0 m (What.Created child))) in (
      on,
      ap (placed.creates v.acting s.format s.images (without_message l id) m child) w.is
          ∙ ap (λ (o : Option BootImage). bind o (λ (i : BootImage). Some (with_sent (with_child (without_message l id) s.format child i links) (Some (answer v.acting 0 m (What.Created child)))))) image_is,
      subst (λ (ks : List PlainLink). Mirrors t v (given a (answer_gets a id (unmoved v.acting) ++ child_links a child id 0 ks)) on) w.links_are
          (created_row s t v a l id m k child image links (ap (λ (ks : List PlainLink). service.creates_of s id k child ks image) w.links_are ∙ last) none hm says (ap enclosed w.is) h),
    )
creates_row s t v a l id m k child _ says is none hm there h = none_some t is

-- created: a process that is made now hasn't moved yet
pub created_follows : (s t : OneKernel) (v : View) (a : Addresses) (l : Placed) (id : MsgId) (child : Pid) → kernel.step s (Label.Created id child) ≡ Some t → v.moves child ≡ 0 → Mirrors s v a l
    → Follows t v (given a (gives s v a (Label.Created id child))) (bind (l.bag id) (λ (m : Message). placed.creates v.acting s.format s.images (without_message l id) m child m.what))
created_follows s t v a l id child is none h =
    let (k, there, rest) = bind-is (s.bag id) (λ (w : PlainMessage). service.creates s id w child w.what) t is in
    let (m, found, says) = there_of s l id k h.plain there in
    let (on, step, mirrors) = creates_row s t v a l id m k child k.what (parts m k says).what rest none (h.places.message id m found) says h in (
      on,
      ap (λ (o : Option Message). bind o (λ (n : Message). placed.creates v.acting s.format s.images (without_message l id) n child n.what)) found ∙ step,
      subst (λ (gs : List Gets). Mirrors t v (given a gs) on) (ap (addresses.creation_gets v a id child) (sym there)) mirrors,
    )
