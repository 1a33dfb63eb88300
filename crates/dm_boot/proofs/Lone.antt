-- Links whose tables say no more than whom they lead to.
use Rattle.dm_boot.proofs.Imports.{◌≡◌, ℕ, ◌||◌, ◌&&◌, Bool, true, false, nat_le, if◌then◌else◌, List, refl, ◌∙◌, codes, is_some, arith, nat_tests, Data, table, member, string, no_members, BootProcess}
use Rattle.dm_boot.proofs.Imports.{process_tables, element_place, number_at, is_server_name, link_of, link_to, pid_named, is_link, has_target, is_limited, is_plain, has_area, memory_size_of, general_link, is_sound, place_at}

-- such a table
abbrev pub lone : List ℕ → Data
lone name = table (member (codes "to") (string name) no_members)

pub lone-link : (t : Data) (name : List ℕ) → t ≡ lone name → is_link t ≡ true
unfolding is_link
lone-link t name e = rw e refl

pub lone-read : (d : Data) (starts : List BootProcess) (t : Data) (name : List ℕ) → t ≡ lone name → link_of d starts t ≡ general_link (pid_named d starts name) 0
unfolding link_of link_to place_at number_at
lone-read d starts t name e = rw e refl

limited : (b : Bool) (size : ℕ) → (if b then true else nat_le 0 size) ≡ true
limited true size = refl
limited false size = grind (arith, nat_tests)

and-right : (a b : Bool) → b ≡ true → (a && b) ≡ a
and-right true b h = h
and-right false b h = refl

lone-limited : (d : Data) (name : List ℕ) → is_limited d (lone name) ≡ true
unfolding is_limited is_plain has_area place_at number_at
lone-limited d name = limited (is_server_name name) (memory_size_of d name)

lone-target : (d : Data) (name : List ℕ) → has_target d (lone name) ≡ (is_server_name name || is_some (element_place name (process_tables d)))
unfolding has_target
lone-target d name = refl

pub lone-sound : (d : Data) (t : Data) (name : List ℕ) → t ≡ lone name → is_sound d t ≡ (is_server_name name || is_some (element_place name (process_tables d)))
unfolding is_sound
lone-sound d t name e = rw e (and-right (has_target d (lone name)) (is_limited d (lone name)) (lone-limited d name) ∙ lone-target d name)

pub ruleset lone_lemmas = (lone-link, lone-read, lone-sound)
