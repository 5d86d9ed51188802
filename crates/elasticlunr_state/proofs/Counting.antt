-- From the counts of tokens to the postings of a field.
use Rattle.std.proofs.Common.{◌≡◌, ◌≢◌, ◌⊎◌, inl, inr, ℕ, zero, suc, ◌+◌, ◌<◌, List, [], ◌∷◌, ◌++◌, length, map, get_or}
use Rattle.std.proofs.Common.{arith, Bool, true, false, cond, Option, None, Some, unwrap_or, bytes_eq, String, Global}
use Rattle.std.proofs.Common.{string_bytes, refl, sym, ap, subst, ◌∙◌, append-nil, append_assoc}
use Rattle.std.specs.Prelude.{IsSomeAnd, IsTrue, Contains, count_by, string_eq}
use Rattle.std.specs.List.{slice_get}
use Rattle.std.proofs.Math.ListN.{set}
use Rattle.std.specs.Str.{chars, encode_utf8_all}
use Rattle.std.specs.List.{IsDistinct}
use Rattle.std.specs.Map.{keys_of}
use Rattle.std.specs.String.{string_eq_equiv}
use Rattle.std.proofs.lemmas.List.Sums.{sum_by-cons}
use Rattle.std.proofs.lemmas.Str.{IsUtf8-string_bytes, encodes-chars}
use Rattle.std.proofs.lemmas.Map.Entries.{lookup_from_place, place_from_lookup}
use Rattle.elasticlunr_error.specs.Text.{Text, Bytes, text_of, texts_of}
use Rattle.elasticlunr_trie.specs.Table.{Table, knows, posting, IsPrefix, AddsToken, AreChanged, additions}
use Rattle.elasticlunr_commands.specs.Root.{IsRoot}
use Rattle.elasticlunr_commands.specs.Standing.{IsPosting}
use Rattle.elasticlunr_commands.specs.Entered.{BeginsOne, ReplacesPostings}
use Rattle.elasticlunr_state.specs.Counted.{StandsIn, counted_texts, AreCounts, AreRooted, BeginsCounted, IsPosted}
use Rattle.elasticlunr_state.specs.Counted.{count_at}
use Rattle.elasticlunr_state.specs.Counted.{IsLeft, Posts}
use Rattle.elasticlunr_commands.proofs.Adding.{same, apart, either}
use Rattle.elasticlunr_state.proofs.Pairing.{FoundIn, early, late, found, set_here}
use Rattle.elasticlunr_state.proofs.Removing.{count_step, counted_stands, stands_counted}

-- standing in a list with one more element
pub stands_before : {A : Type 0} (xs : List A) (x y : A) → StandsIn xs x → StandsIn (xs ++ y ∷ []) x
stands_before xs x y (i, e) = (i, still xs i e) where
  still : (xs : List _) (i : ℕ) → slice_get xs i ≡ Some x → slice_get (xs ++ y ∷ []) i ≡ Some x
  still [] i e = cc (e)
  still (w ∷ xs) zero e = e
  still (w ∷ xs) (suc i) e = still xs i e

pub stands_last : {A : Type 0} (xs : List A) (y : A) → StandsIn (xs ++ y ∷ []) y
stands_last xs y = (length xs, at_end xs) where
  at_end : (xs : List _) → slice_get (xs ++ y ∷ []) (length xs) ≡ Some y
  at_end [] = refl
  at_end (w ∷ xs) = at_end xs

pub stands_split : {A : Type 0} (xs : List A) (x y : A) → StandsIn (xs ++ y ∷ []) x → StandsIn xs x ⊎ (y ≡ x)
stands_split xs x y (i, e) = of_found (found xs y x i e) where
  of_found : FoundIn xs y x i → StandsIn xs x ⊎ (y ≡ x)
  of_found (early e) = inl (i, e)
  of_found (late at is) = inr is

-- the two words for standing in a list
pub contains_from_stands : {A : Type 0} (xs : List A) (x : A) → StandsIn xs x → Contains xs x
contains_from_stands [] x (i, e) = cc (e)
contains_from_stands (w ∷ xs) x (zero, e) = (0, omega arith, cc (e))
contains_from_stands (w ∷ xs) x (suc i, e) = let later = contains_from_stands xs x (i, e) in
    (suc later.0, omega (arith, later.1), later.2)

pub stands_from_contains : {A : Type 0} (xs : List A) (x : A) → Contains xs x → StandsIn xs x
stands_from_contains xs x (i, inside, is) = (i, at xs i inside is) where
  at : (xs : List _) (i : ℕ) → i < length xs → get_or xs i x ≡ x → slice_get xs i ≡ Some x
  at [] i inside is = absurd (omega arith)
  at (w ∷ xs) zero inside is = ap Some is
  at (w ∷ xs) (suc i) inside is = at xs i (omega arith) is

-- one more counted token
module _ (old mid new : Table) (reference : Bytes) (counts : List (Text × ℕ)) (t : Text) (n m : ℕ)
    (so_far : Posts old mid reference counts) (is_root : IsRoot n m) where
  begins_more : (text : Text) → BeginsCounted counts text → BeginsCounted (counts ++ (t, n) ∷ []) text
  begins_more text b = record {
    token = b.token;
    count = b.count;
    not_empty = b.not_empty;
    among = stands_before counts
        _ _ b.among;
    begins = b.begins;
  }

  pub posts_token : t ≢ [] → AddsToken mid new t reference m → Posts old new reference (counts ++ (t, n) ∷ [])
  posts_token given step = record {
    known = λ text. (
      λ k. either
          (λ before. either inl (λ b. inr (begins_more text b)) ((so_far.known text).0 before))
          (λ begins. inr (record {
            token = t;
            count = n;
            not_empty = given;
            among = stands_last counts _;
            begins =
                begins;
          }))
          ((step.known text).0 k),
      λ k. (step.known text).1 (either (λ before. inl ((so_far.known text).1 (inl before))) (known_back text) k),
    );
    its_own = λ token there. at_token token there (bytes_eq token t) refl;
    others = λ token other differs. step.others token other (λ is. differs is.1) ∙ so_far.others token other differs;
    no_empty = λ r. step.others [] r (λ is. given (sym is.0)) ∙ so_far.no_empty r;
  } where
    known_back : (text : Text) → BeginsCounted (counts ++ (t, n) ∷ []) text → IsTrue (knows mid text) ⊎ IsPrefix text t
    known_back text b = either
        (λ among. inl ((so_far.known text).1 (inr
        (record {
          token = b.token;
          count = b.count;
          not_empty = b.not_empty;
          among = among;
          begins =
              b.begins;
        }))))
        (λ is. inr (subst (IsPrefix text) (ap (λ p. p.0) (sym is)) b.begins))
        (stands_split counts _ _ b.among)

    at_token : (token : Text) → token ≢ [] → (b : Bool) → bytes_eq token t ≡ b
        → IsPosted (counts ++ (t, n) ∷ []) new reference token ⊎ IsLeft (counts ++ (t, n) ∷ []) old new reference
        token
    at_token token there true e = inl (subst (IsPosted (counts ++ (t, n) ∷ []) new reference) (sym (same token t e))
        (record {
          count = n;
          among = stands_last counts _;
          rooted = subst (λ o. IsSomeAnd o (IsRoot n)) (sym step.set) is_root;
        }))
    at_token token there false e =
        let stays : posting new token reference ≡ posting mid token reference = step.others token reference
        (λ is. apart token t e is.0) in
        either
        (λ p. inl (record {
          count = p.count;
          among = stands_before counts _ _ p.among;
          rooted =
              subst (λ o. IsSomeAnd o (IsRoot p.count)) (sym stays) p.rooted;
        }))
        (λ p. inr (record {
          absent = λ k among. either (p.absent k) (λ is. apart token t e (ap (λ q. q.0) (sym is)))
              (stands_split counts _ _ among);
          as_before = stays ∙ p.as_before;
        }))
        (so_far.its_own token there)

  pub posts_empty : t ≡ [] → new ≡ mid → Posts old new reference (counts ++ (t, n) ∷ [])
  posts_empty empty same_table = subst (λ u. Posts old u reference (counts ++ (t, n) ∷ [])) (sym same_table) (record {
    known = λ text. (
      λ k. either inl (λ b. inr (begins_more text b)) ((so_far.known text).0 k),
      λ k. (so_far.known text).1 (either inl (λ b. inr (without text b)) k),
    );
    its_own = λ token there. either
        (λ p. inl (record { count = p.count; among = stands_before counts _ _ p.among; rooted = p.rooted }))
        (λ p. inr (record {
          absent = λ k among. either (p.absent k) (λ is. there (ap (λ q. q.0) (sym is) ∙ empty))
              (stands_split counts _ _ among);
          as_before = p.as_before;
        }))
        (so_far.its_own token there);
    others = so_far.others;
    no_empty = so_far.no_empty;
  }) where
    without : (text : Text) → BeginsCounted (counts ++ (t, n) ∷ []) text → BeginsCounted counts text
    without text b = record {
      token = b.token;
      count = b.count;
      not_empty = b.not_empty;
      among = either (λ among. among) (λ is. absurd (b.not_empty (ap (λ q. q.0) (sym is) ∙ empty)))
          (stands_split counts _ _ b.among);
      begins = b.begins;
    }

  pub posts_more : (t ≢ [] → AddsToken mid new t reference m) → (t ≡ [] → new ≡ mid)
      → Posts old new reference (counts ++ (t, n) ∷ [])
  posts_more adds stays = by_test (bytes_eq t []) refl where
    by_test : (b : Bool) → bytes_eq t [] ≡ b → Posts old new reference (counts ++ (t, n) ∷ [])
    by_test true e = posts_empty (same t [] e) (stays (same t [] e))
    by_test false e = posts_token (apart t [] e) (adds (apart t [] e))

pub posts_none : (old : Table) (reference : Bytes) → Posts old old reference []
posts_none old reference = record {
  known = λ text. (inl, either (λ k. k) (λ b. nothing (Text × ℕ) _ b.among));
  its_own = λ token there. inr (record { absent = λ n among. nothing (Text × ℕ) _ among; as_before = refl });
  others = λ token other differs. refl;
  no_empty = λ r. refl;
} where
  nothing : {C : Type 0} (A : Type 0) (x : A) → StandsIn [] x → C
  nothing A x (i, e) = cc (e)

-- strings are equal where their texts are
texts_tell : (s t : String Global) → bytes_eq (string_bytes s) (string_bytes t) ≡ bytes_eq (text_of s) (text_of t)
texts_tell s t = by_test _ _ refl refl where
  back : text_of s ≡ text_of t → string_bytes s ≡ string_bytes t
  back is = sym (encodes-chars (string_bytes s) (IsUtf8-string_bytes s)) ∙ ap encode_utf8_all is
      ∙ encodes-chars (string_bytes t) (IsUtf8-string_bytes t)

  by_test : (a b : Bool) → bytes_eq (string_bytes s) (string_bytes t) ≡ a → bytes_eq (text_of s) (text_of t) ≡ b → a ≡ b
  by_test true true p q = refl
  by_test false false p q = refl
  by_test true false p q = absurd (apart (text_of s) (text_of t) q
      (ap chars (same (string_bytes s) (string_bytes t) p)))
  by_test false true p q = absurd (apart (string_bytes s) (string_bytes t) p (back (same (text_of s) (text_of t) q)))

count_texts : (key : String Global) (tokens : List (String Global))
    → count_by (λ s. bytes_eq (string_bytes key) (string_bytes s)) tokens
    ≡ count_by (bytes_eq (text_of key)) (texts_of tokens)
count_texts key [] = refl
count_texts key (s ∷ tokens) =
    sum_by-cons (λ t. cond (bytes_eq (string_bytes key) (string_bytes t)) 1 0) s tokens
    ∙ ap (λ b. cond b 1 0 + count_by (λ t. bytes_eq (string_bytes key) (string_bytes t)) tokens) (texts_tell key s)
    ∙ ap (λ n. cond (bytes_eq (text_of key) (text_of s)) 1 0 + n) (count_texts key tokens)
    ∙ sym (count_step (text_of key) (text_of s) (texts_of tokens))

-- what a mapped list has, and what it was made of
pub mapped_back : {A B : Type 0} (f : A → B) (xs : List A) (i : ℕ) (y : B) → slice_get (map f xs) i ≡ Some y → (x : A)
    × (slice_get xs i ≡ Some x) × (f x ≡ y)
mapped_back f [] i y e = cc (e)
mapped_back f (x ∷ xs) zero y e = (x, refl, cc (e))
mapped_back f (x ∷ xs) (suc i) y e = mapped_back f xs i y e

pub mapped_there : {A B : Type 0} (f : A → B) (xs : List A) (i : ℕ) (x : A) → slice_get xs i ≡ Some x
    → slice_get (map f xs) i ≡ Some (f x)
mapped_there f [] i x e = cc (e)
mapped_there f (w ∷ xs) zero x e = cc (e)
mapped_there f (w ∷ xs) (suc i) x e = mapped_there f xs i x e

module _ (tokens : List (String Global)) (entries : List (String Global × ℕ))
    (are : AreCounts tokens (count_at entries)) (unique : IsDistinct string_eq (keys_of entries)) where
  entry_counts : (token : Text) (n : ℕ) → StandsIn (counted_texts entries) (token, n)
      → (n ≡ count_by (bytes_eq token) (texts_of tokens)) × (n ≢ 0)
  entry_counts token n (i, e) =
      let entry = mapped_back (λ e. (text_of e.0, e.1)) entries i (token, n) e in
      let key : String Global = entry.0.0 in
      let found : count_at entries (string_bytes key) ≡ Some entry.0.1 =
      lookup_from_place string_eq_equiv entries i key entry.0.1 unique entry.1 in
      let token_is : text_of key ≡ token = ap (λ p. p.0) entry.2 in
      let n_is : entry.0.1 ≡ n = ap (λ p. p.1) entry.2 in
      let counted : entry.0.1 ≡ count_by (bytes_eq (text_of key)) (texts_of tokens) =
      sym (ap (λ o. unwrap_or o 0) found) ∙ are.counted (string_bytes key) ∙ count_texts key tokens in (
        sym n_is ∙ counted ∙ ap (λ t. count_by (bytes_eq t) (texts_of tokens)) token_is,
        λ zero_is. are.positive (string_bytes key) (found ∙ ap Some (n_is ∙ zero_is)),
      )

  token_counted : (token : Text) → Contains (texts_of tokens) token → (n : ℕ)
      × StandsIn (counted_texts entries) (token, n)
  token_counted token among =
      let place = stands_from_contains (texts_of tokens) token among in
      let s = mapped_back text_of tokens place.0 token place.1 in
      of_found s.0 s.2 (count_at entries (string_bytes s.0)) refl where
        of_found : (s : String Global) → text_of s ≡ token → (o : Option ℕ) → count_at entries (string_bytes s) ≡ o
            → (n : ℕ) × StandsIn (counted_texts entries) (token, n)
        of_found s is None e = absurd (stands_counted token (texts_of tokens) among.0 among.1 among.2
            (ap (λ t. count_by (bytes_eq t) (texts_of tokens)) (sym is) ∙ sym (count_texts s tokens)
            ∙ sym (are.counted (string_bytes s)) ∙ ap (λ o. unwrap_or o 0) e))
        of_found s is (Some n) e =
            let entry = place_from_lookup (λ k. bytes_eq (string_bytes s) (string_bytes k)) entries n e in
            let key_is : text_of entry.1 ≡ token = ap chars (sym (same (string_bytes s) (string_bytes entry.1) entry.3))
            ∙ is in (
              n,
              (
                entry.0,
                mapped_there (λ e. (text_of e.0, e.1)) entries entry.0 (entry.1, n) entry.2
                    ∙ ap (λ t. Some (t, n)) key_is,
              ),
            )

  pub replaces_from_posts : (old new : Table) (reference : Bytes)
      → ((token : Text) → posting old token reference ≡ None) → Posts old new reference (counted_texts entries)
      → ReplacesPostings old new reference (Some (texts_of tokens))
  replaces_from_posts old new reference none posted = record {
    known = λ text. (
      λ k. either inl (λ b. inr (begins_one text b)) ((posted.known text).0 k),
      λ k. (posted.known text).1 (either inl (λ b. inr (begins_counted text b)) k),
    );
    its_own = λ token there. either (counted_is token) (absent_is token) (posted.its_own token there);
    others = posted.others;
    no_empty = λ r absent. posted.no_empty r ∙ absent;
  } where
    begins_one : (text : Text) → BeginsCounted (counted_texts entries) text → BeginsOne (texts_of tokens) text
    begins_one text b = record { token = b.token; not_empty = b.not_empty; among = of_count _ refl; begins = b.begins }
      where
        of_count : (n : ℕ) → count_by (bytes_eq b.token) (texts_of tokens) ≡ n → Contains (texts_of tokens) b.token
        of_count zero e = let counts = entry_counts b.token b.count b.among in absurd (counts.1 (counts.0 ∙ e))
        of_count (suc n) e = counted_stands b.token (texts_of tokens) n e

    begins_counted : (text : Text) → BeginsOne (texts_of tokens) text
        → BeginsCounted (counted_texts entries) text
    begins_counted text b = let counted = token_counted b.token b.among in record
        { token = b.token; count = counted.0; not_empty = b.not_empty; among = counted.1; begins = b.begins }

    counted_is : (token : Text) → IsPosted (counted_texts entries) new reference token
        → IsPosting (count_by (bytes_eq token) (texts_of tokens)) (posting new token reference)
    counted_is token p = let counted = entry_counts token p.count p.among in subst
        (λ n. IsPosting n (posting new token reference)) counted.0 (of_count p.count counted.1 p.rooted) where
          of_count : (n : ℕ) → n ≢ 0 → IsSomeAnd (posting new token reference) (IsRoot n)
              → IsPosting n (posting new token reference)
          of_count zero differs rooted = absurd (differs refl)
          of_count (suc n) differs rooted = rooted

    absent_is : (token : Text) → IsLeft (counted_texts entries) old new reference token
        → IsPosting (count_by (bytes_eq token) (texts_of tokens)) (posting new token reference)
    absent_is token p = of_count _ refl where
      of_count : (n : ℕ) → count_by (bytes_eq token) (texts_of tokens) ≡ n → IsPosting n (posting new token reference)
      of_count zero e = p.as_before ∙ none token
      of_count (suc n) e = let counted = token_counted token (counted_stands token (texts_of tokens) n e) in absurd
          (p.absent counted.0 counted.1)

  -- the same of one table among others
  pub replaced_at : (tables : List Table) (i : ℕ) (old new : Table) (reference : Bytes) → i < length tables
      → slice_get tables i ≡ Some old → Posts old new reference (counted_texts entries)
      → (before after : Table) → slice_get tables i ≡ Some before → slice_get (set tables i new) i ≡ Some after
      → ((token : Text) → posting before token reference ≡ None)
      → ReplacesPostings before after reference (Some (texts_of tokens))
  replaced_at tables i old new reference inside is posted before after eb ea none =
      let was : old ≡ before = cc (is, eb) in
      let becomes : new ≡ after = cc (set_here tables i new inside, ea) in
      replaces_from_posts before after reference none
      (subst (λ t. Posts t after reference (counted_texts entries)) was
      (subst (λ t. Posts old t reference (counted_texts entries)) becomes posted))

-- one more rooted token
pub rooted_more : (counts roots : List (Text × ℕ)) (t u : Text) (n m : ℕ) → AreRooted counts roots → u ≡ t → IsRoot n m
    → AreRooted (counts ++ (t, n) ∷ []) (roots ++ (u, m) ∷ [])
rooted_more [] [] t u n m so_far same is = (same, is, tt)
rooted_more [] (m2 ∷ roots) t u n m so_far same is = absurd so_far
rooted_more (n2 ∷ counts) [] t u n m so_far same is = absurd so_far
rooted_more (n2 ∷ counts) (m2 ∷ roots) t u n m so_far same is =
    (so_far.0, so_far.1, rooted_more counts roots t u n m so_far.2 same is)

-- the roots are set after what is posted
pub posts_all : (old mid new : Table) (reference : Bytes) (done counts roots : List (Text × ℕ))
    → Posts old mid reference done → AreRooted counts roots → AreChanged (additions reference roots) mid new
    → Posts old new reference (done ++ counts)
posts_all old mid new reference done [] [] so_far are same = subst (λ T. Posts old T reference (done ++ [])) (sym same)
    (subst (Posts old mid reference) (sym (append-nil done)) so_far)
posts_all old mid new reference done [] (m ∷ roots) so_far are changed = absurd are
posts_all old mid new reference done (n ∷ counts) [] so_far are changed = absurd are
posts_all old mid new reference done (n ∷ counts) (m ∷ roots) so_far are changed =
    let next = posts_more old mid changed.0 reference done n.0 n.1 m.1 so_far are.1
    (λ given. subst (λ t. AddsToken mid changed.0 t reference m.1) are.0 (changed.1.0 (λ is. given (sym are.0 ∙ is))))
    (λ empty. changed.1.1 (are.0 ∙ empty)) in
    subst (Posts old new reference) (append_assoc done (n ∷ []) counts)
    (posts_all old changed.0 new reference (done ++ n ∷ []) counts roots next are.2 changed.2)
