-- On the texts in a set, and those of postings.
use Rattle.std.proofs.Common.{◌≡◌, ℕ, zero, suc, ◌+◌, ◌<◌, Bool, true, false, true≢false, cond, List, [], ◌∷◌, ◌++◌}
use Rattle.std.proofs.Common.{◌||◌, length, take, get_or, map, is_some, Option, Some, Result, Ok, Err, OnErr, refl, sym}
use Rattle.std.proofs.Common.{ap, ◌∙◌, bytes_eq, Less}
use Rattle.std.proofs.lemmas.List.{map-append}
use Rattle.std.proofs.lemmas.Slice.Eq.{bytes_eq-Decides}
use Rattle.std.specs.Borrow.{Bor}
use Rattle.std.specs.BTreeSet.{BTreeSet, contains, UpdatesBy}
use Rattle.std.specs.Ordering.{nat_cmp, eq_by_cmp}
use Rattle.std.specs.declared.cmp.Ordering.{Ordering}
use Rattle.std.specs.Cmp.Lexicographic.{slice_cmp}
use Rattle.std.specs.List.{list_any, AllByRecursion}
use Rattle.std.specs.List.Sorted.{IsStrictlySortedBy}
use Rattle.std.specs.FinMap.{find, get}
use Rattle.std.proofs.lemmas.Map.Text.{is_eq-slice_cmp}
use Rattle.elasticlunr_error.specs.Text.{Bytes, is_listed, text_cmp}
use Rattle.elasticlunr_trie_nodes.specs.Names.{Names, AreNames, ArePostings, under_names, named_pairs}
use Rattle.elasticlunr_trie_nodes.specs.Pairs.{Pairs, key_at}
use Rattle.elasticlunr_trie_nodes.proofs.Named.{get_pairs_named, under_more}
use Rattle.elasticlunr_trie.specs.References.{texts_in}

-- the order of borrowed texts
abbrev pub by_text : Bor Bytes → Bor Bytes → Ordering
by_text x y = slice_cmp nat_cmp x.now y.now

-- a text is in a set where it is listed
contained : (keys : List (Bor Bytes)) (q : Bor Bytes) → list_any (eq_by_cmp by_text q) keys
    ≡ is_listed q.now (map (λ k. k.now) keys)
contained [] q = refl
contained (k ∷ keys) q = λ i. is_eq-slice_cmp q.now k.now i || contained keys q i

-- one text more
pub put_text : (old new : BTreeSet (Bor Bytes)) (name : Bor Bytes) → UpdatesBy by_text (by_text name) old new true
    → (r : Bytes) → is_listed r (texts_in new) ≡ (bytes_eq name.now r || is_listed r (texts_in old))
put_text old new name updates r =
    let q : Bor Bytes = record { ref_ptr = (0, 0); now = r } in
    sym (contained new.keys q) ∙ updates.0 q ∙ ap (λ b. cond b true (contains by_text old q))
    (is_eq-slice_cmp name.now r) ∙ ap (cond (bytes_eq name.now r) true) (contained old.keys q)
    ∙ or (bytes_eq name.now r) _
  where
    or : (a b : Bool) → cond a true b ≡ (a || b)
    or true b = refl
    or false b = refl

-- the names of postings
abbrev pub names_among : Names → Pairs → List Bytes
names_among names pairs = map (λ e. e.0) (under_names names pairs)

same_both_ways : (a b : Bytes) → bytes_eq a b ≡ bytes_eq b a
same_both_ways a b = by (bytes_eq a b) (bytes_eq b a) refl refl
  where
    by : (x y : Bool) → bytes_eq a b ≡ x → bytes_eq b a ≡ y → bytes_eq a b ≡ bytes_eq b a
    by true true e f = e ∙ sym f
    by false false e f = e ∙ sym f
    by true false e f = let is : a ≡ b = (bytes_eq-Decides a b).0 e in absurd
        (true≢false (sym ((bytes_eq-Decides b a).1 (sym is)) ∙ f))
    by false true e f = let is : b ≡ a = (bytes_eq-Decides b a).0 f in absurd
        (true≢false (sym ((bytes_eq-Decides a b).1 (sym is)) ∙ e))

behind : (r : Bytes) (xs : List Bytes) (x : Bytes) → is_listed r (xs ++ x ∷ []) ≡ (is_listed r xs || bytes_eq r x)
behind r [] x = by (bytes_eq r x)
  where
    by : (b : Bool) → (b || false) ≡ b
    by true = refl
    by false = refl
behind r (y ∷ xs) x = ap (λ b. bytes_eq r y || b) (behind r xs x) ∙ by (bytes_eq r y) _ _
  where
    by : (a b c : Bool) → (a || (b || c)) ≡ ((a || b) || c)
    by true b c = refl
    by false b c = refl

more_names : (names : Names) (pairs : Pairs) (i : ℕ) → i < length pairs → (r : Bytes)
    → is_listed r (names_among names (take (i + 1) pairs))
    ≡ (is_listed r (names_among names (take i pairs)) || bytes_eq r (get_or names (key_at pairs i) []))
more_names names pairs i lt r =
    ap (λ es. is_listed r (map (λ e. e.0) es)) (under_more names pairs i lt)
    ∙ ap (is_listed r) (map-append (λ e. e.0) (under_names names (take i pairs))
    ((get_or names (key_at pairs i) [], (get_or pairs i (0, 0)).1) ∷ []))
    ∙ behind r (names_among names (take i pairs)) (get_or names (key_at pairs i) [])

-- the names so far, and one more
pub put_one_more : (names : Names) (pairs : Pairs) (i : ℕ) → i < length pairs
    → (old new first : BTreeSet (Bor Bytes)) (name : Bor Bytes) → name.now ≡ get_or names (key_at pairs i) []
    → UpdatesBy by_text (by_text name) old new true
    → ((r : Bytes) → is_listed r (texts_in old)
    ≡ (is_listed r (texts_in first) || is_listed r (names_among names (take i pairs))))
    → (r : Bytes) → is_listed r (texts_in new)
    ≡ (is_listed r (texts_in first) || is_listed r (names_among names (take (i + 1) pairs)))
put_one_more names pairs i lt old new first name is updates before r =
    put_text old new name updates r
    ∙ ap (λ b. bytes_eq name.now r || b) (before r)
    ∙ turn (bytes_eq name.now r) _ _
    ∙ ap (λ b. is_listed r (texts_in first) || (is_listed r (names_among names (take i pairs)) || b))
    (same_both_ways name.now r ∙ ap (bytes_eq r) is)
    ∙ ap (λ b. is_listed r (texts_in first) || b) (sym (more_names names pairs i lt r))
  where
    turn : (x a b : Bool) → (x || (a || b)) ≡ (a || (b || x))
    turn true true b = refl
    turn true false true = refl
    turn true false false = refl
    turn false true b = refl
    turn false false true = refl
    turn false false false = refl

-- a name is among those of postings where it has one
listed_found : (es : List (Bytes × ℕ)) (r : Bytes) → is_listed r (map (λ e. e.0) es) ≡ is_some (find text_cmp r es)
listed_found [] r = refl
listed_found (e ∷ es) r = ap (λ b. b || is_listed r (map (λ e. e.0) es)) (sym (is_eq-slice_cmp r e.0))
    ∙ ap (λ b. eq_by_cmp (slice_cmp nat_cmp) r e.0 || b) (listed_found es r)
    ∙ by (eq_by_cmp (slice_cmp nat_cmp) r e.0) (find text_cmp r es)
  where
    by : (b : Bool) (o : Option ℕ) → (b || is_some o) ≡ is_some (cond b (Some e.1) o)
    by true o = refl
    by false o = refl

pub names_posted : (names : Names) → AreNames names → (pairs : Pairs) → ArePostings names pairs → (r : Bytes)
    → is_listed r (names_among names pairs) ≡ is_some (get (named_pairs names pairs) r)
names_posted names are pairs postings r = listed_found (under_names names pairs) r
    ∙ ap is_some (sym (get_pairs_named names are pairs postings r))

-- the names of the first postings are among those of all
pub among_all : (names : Names) (pairs : Pairs) (i : ℕ) (r : Bytes) → is_listed r (names_among names (take i pairs))
    ≡ true → is_listed r (names_among names pairs) ≡ true
among_all names pairs zero r h = absurd (true≢false (sym h))
among_all names [] (suc i) r h = absurd (true≢false (sym h))
among_all names (e ∷ pairs) (suc i) r h = by (bytes_eq r (get_or names e.0 [])) _ _ (among_all names pairs i r) h
  where
    by : (b a c : Bool) → (a ≡ true → c ≡ true) → (b || a) ≡ true → (b || c) ≡ true
    by true a c f h = refl
    by false a c f h = f h

-- a fact holds where there is an error
pub on_err : {T E : Type 0} (r : Result T E) (P : Type 0) → P → OnErr r P
on_err (Ok x) P p = tt
on_err (Err e) P p = p

-- what is listed of a is listed
pub or_keeps : (a b c : Bool) → c ≡ (a || b) → a ≡ true → c ≡ true
or_keeps true b c e h = e
or_keeps false b c e h = absurd (true≢false (sym h))

-- what is listed is of a, or of what b is of
pub or_more : (a b c d : Bool) → c ≡ (a || b) → (b ≡ true → d ≡ true) → c ≡ true → (a || d) ≡ true
or_more true b c d e f h = refl
or_more false b c d e f h = f (sym e ∙ h)

-- nothing more is listed
pub or_none : (a : Bool) → a ≡ (a || false)
or_none true = refl
or_none false = refl

-- a set has its texts in order
all_below : (k : Bor Bytes) (ks : List (Bor Bytes)) → AllByRecursion (λ y. by_text k y ≡ Less) ks
    → AllByRecursion (λ y. text_cmp k.now y ≡ Less) (map (λ x. x.now) ks)
all_below k [] h = tt
all_below k (x ∷ ks) h = (h.0, all_below k ks h.1)

pub in_order : (ks : List (Bor Bytes)) → IsStrictlySortedBy by_text ks
    → IsStrictlySortedBy text_cmp (map (λ x. x.now) ks)
unfolding IsStrictlySortedBy
in_order [] h = tt
in_order (k ∷ ks) h = (all_below k ks h.0, in_order ks h.1)

-- one text more
pub now_behind : (ks : List (Bor Bytes)) (k : Bor Bytes) → map (λ x. x.now) (ks ++ k ∷ [])
    ≡ map (λ x. x.now) ks ++ k.now ∷ []
now_behind [] k = refl
now_behind (x ∷ ks) k = ap (λ bs. x.now ∷ bs) (now_behind ks k)
