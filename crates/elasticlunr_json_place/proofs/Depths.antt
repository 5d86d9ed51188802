-- How deep the values within a value nest.
use Rattle.std.proofs.Common.{◌≡◌, ◌≤◌, ℕ, zero, suc, List, [], ◌∷◌, Option, Some, None, IfSome, option_and_then}
use Rattle.std.proofs.Common.{Ordering, Less, Equal, Greater, subst, arith}
use Rattle.std.specs.Ordering.{match_ordering}
use Rattle.serde_json.specs.Data.{Data, null, boolean, number, string, array, object, Items, no_items, item, Members}
use Rattle.serde_json.specs.Data.{no_members, member, depth, items_depth, members_depth}
use Rattle.serde_json.specs.Find.{get_item, get_member}
use Rattle.elasticlunr_error.specs.Text.{Bytes}
use Rattle.elasticlunr_json_place.specs.Members.{Move, follow, move}
use Rattle.elasticlunr_json_place.specs.Members as step

-- a value that is there nests no deeper than this
abbrev Within : ℕ → Option Data → Type 0
Within n o = IfSome o (λ d. depth d ≤ n)

one_of : (o : Ordering) (a b c : Option Data) (n : ℕ) → Within n a → Within n b → Within n c
    → Within n (match_ordering o a b c)
one_of Less a b c n p q r = p
one_of Equal a b c n p q r = q
one_of Greater a b c n p q r = r

of_member : (k : Bytes) (ms : Members) (n : ℕ) → members_depth ms ≤ n → Within n (get_member k ms)
of_member k no_members n h = tt
of_member k (member l e ms) n h = one_of _ (get_member k ms) (Some e) (get_member k ms) n
    (of_member k ms n (omega arith)) (omega arith) (of_member k ms n (omega arith))

of_item : (i : ℕ) (ds : Items) (n : ℕ) → items_depth ds ≤ n → Within n (get_item i ds)
of_item i no_items n h = tt
of_item zero (item d ds) n h = omega arith
of_item (suc i) (item d ds) n h = of_item i ds n (omega arith)

of_move : (m : Move) (d : Data) (n : ℕ) → depth d ≤ n → Within n (move m d)
of_move (step.under key) (object ms) n h = of_member key ms n (omega arith)
of_move (step.under key) null n h = tt
of_move (step.under key) (boolean b) n h = tt
of_move (step.under key) (number x) n h = tt
of_move (step.under key) (string s) n h = tt
of_move (step.under key) (array ds) n h = tt
of_move (step.item i) (array ds) n h = of_item i ds n (omega arith)
of_move (step.item i) null n h = tt
of_move (step.item i) (boolean b) n h = tt
of_move (step.item i) (number x) n h = tt
of_move (step.item i) (string s) n h = tt
of_move (step.item i) (object ms) n h = tt

then_within : (f : Data → Option Data) (o : Option Data) (n : ℕ) → ((d : Data) → depth d ≤ n → Within n (f d))
    → Within n o → Within n (option_and_then f o)
then_within f None n more h = tt
then_within f (Some d) n more h = more d h

-- what a path leads to nests no deeper than what it leads from
within_path : (path : List Move) (d : Data) (n : ℕ) → depth d ≤ n → Within n (follow path d)
within_path [] d n h = h
within_path (m ∷ path) d n h = then_within (follow path) (move m d) n (λ e g. within_path path e n g) (of_move m d n h)

pub depth-follow : (path : List Move) (d e : Data) (n : ℕ) → depth d ≤ n → follow path d ≡ Some e → depth e ≤ n
depth-follow path d e n h is = subst (Within n) is (within_path path d n h)
