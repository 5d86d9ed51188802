-- In fields that are alike the tokens find the same documents with the same scores.
use Rattle.std.proofs.Common.{◌≡◌, ◌<◌, ◌+◌, ◌⊎◌, inl, inr, ℕ, zero, suc, Bool, true, false, true≢false, ◌||◌, ◌==◌}
use Rattle.std.proofs.Common.{cond, not, List, [], ◌∷◌, length, map, get_or, Option, Some, None, is_some, option_map}
use Rattle.std.proofs.Common.{refl, sym, ap, subst, ◌∙◌, arith, bytes_eq}
use Rattle.std.proofs.lemmas.List.{append-nil}
use Rattle.std.proofs.lemmas.Slice.Eq.{bytes_eq-Decides}
use Rattle.std.specs.Prelude.{◌&&◌, count_by, IsSome}
use Rattle.std.specs.FinMap.{get, len}
use Rattle.std.specs.Float.{Float}
use Rattle.std.specs.List.{AllZip, fold}
use Rattle.elasticlunr_error.specs.Text.{Text, Bytes, is_listed}
use Rattle.elasticlunr_ranking.specs.Fields.{Field}
use Rattle.elasticlunr_store.specs.Contents.{field_length}
use Rattle.elasticlunr_trie.specs.Table.{Table, postings}
use Rattle.elasticlunr_ranking.specs.Doubles.{◌*ᵈ◌, whole}
use Rattle.elasticlunr_ranking.specs.Weights.{AreAllLookedUp, AreLookedUp, AreWordsOf, counted_if, field_score, idf_of, is_enough}
use Rattle.elasticlunr_ranking.specs.Weights.{is_found, is_found_itself, norm_of, part, penalty_of, shared, sum_of, token_score}
use Rattle.elasticlunr_ranking.specs.Weights.{tokens_score, total_score}
use Rattle.elasticlunr_piece_laws.specs.Alike.{AreAlike, CanStandFor}

either : (a b : Bool) → (a || b) ≡ true → (a ≡ true) ⊎ (b ≡ true)
either true b h = inl refl
either false b h = inr h

left_true : (a b : Bool) → a ≡ true → (a || b) ≡ true
left_true true b h = refl
left_true false b h = absurd (true≢false (sym h))

right_true : (a b : Bool) → b ≡ true → (a || b) ≡ true
right_true true b h = refl
right_true false b h = h

itself : (x : Text) (xs : List Text) → is_listed x (x ∷ xs) ≡ true
itself x xs = left_true (bytes_eq x x) _ ((bytes_eq-Decides x x).1 refl)

-- what functions that agree on the elements make of them
map_same : {A B : Type 0} (f g : A → B) (xs : List A) → ((k : ℕ) (d : A) → k < length xs → f (get_or xs k d)
    ≡ g (get_or xs k d)) → map f xs ≡ map g xs
map_same f g [] same = refl
map_same f g (x ∷ xs) same =
    let rest = map_same f g xs (λ k d lt. same (suc k) d (omega (arith, lt))) in
    λ i. same zero x (omega arith) i ∷ rest i

count_same : {A : Type 0} (p q : A → Bool) (xs : List A) → ((k : ℕ) (d : A) → k < length xs → p (get_or xs k d)
    ≡ q (get_or xs k d)) → count_by p xs ≡ count_by q xs
count_same {A} p q xs same = from 0 xs same
  where
    from : (n : ℕ) (xs : List A) → ((k : ℕ) (d : A) → k < length xs → p (get_or xs k d) ≡ q (get_or xs k d))
        → fold (λ n x. n + cond (p x) 1 0) n xs ≡ fold (λ n x. n + cond (q x) 1 0) n xs
    from n [] same = refl
    from n (x ∷ xs) same =
        from (n + cond (p x) 1 0) xs (λ k d lt. same (suc k) d (omega (arith, lt)))
        ∙ ap (λ b. fold (λ n x. n + cond (q x) 1 0) (n + cond b 1 0) xs) (same zero x (omega arith))

-- each first part is listed among the first parts
first_listed : {X : Type 0} (ts : List (Text × X)) (k : ℕ) (d : Text × X) → k < length ts
    → is_listed (get_or ts k d).0 (map (λ t. t.0) ts) ≡ true
first_listed [] k d lt = absurd (omega (arith, lt))
first_listed (t ∷ ts) zero d lt = itself t.0 (map (λ t. t.0) ts)
first_listed (t ∷ ts) (suc k) d lt = right_true _ _ (first_listed ts k d (omega (arith, lt)))

-- a token stands for itself
stands_itself : (e : Bool) (token : Text) → CanStandFor e token token
stands_itself false token = refl
stands_itself true token = ([], append-nil token)

-- a token can stand for its words
can_stand : (e : Bool) (table : Table) (token : Text) (words : List Text) → AreWordsOf table e token words
    → (word : Text) → is_listed word words ≡ true → CanStandFor e token word
can_stand false table token words are word h =
    elim (either (bytes_eq word token) false (ap (is_listed word) (sym are) ∙ h)) [
      | inl here ↦ (bytes_eq-Decides word token).0 here
      | inr other ↦ absurd (true≢false (sym other))
    ]
can_stand true table token words are word h = ((are.1 word).0 h).0

-- the words of a token are the same in a table with the same postings
words_same : (e : Bool) (table other : Table) (token : Text) (words : List Text)
    → ((word : Text) → CanStandFor e token word → postings table word ≡ postings other word)
    → AreWordsOf table e token words → AreWordsOf other e token words
words_same false table other token words same are = are
words_same true table other token words same are = (
  are.0,
  λ word. (
    λ h. let (begins, has) = (are.1 word).0 h in
        (begins, subst (λ P. (r : Bytes) × IsSome (get P r)) (same word begins) has),
    λ (begins, has). (are.1 word).1
        (begins, subst (λ P. (r : Bytes) × IsSome (get P r)) (sym (same word begins)) has),
  ),
)

module _ (tokens : List Text) (f g : Field) (alike : AreAlike tokens f g) where
  lengths_same : (r : Bytes) → field_length f.contents r f.name ≡ field_length g.contents r g.name
  lengths_same r = alike.lengths r ∙ ap (field_length g.contents r) alike.name

  part_same : (token word : Text) → postings f.table word ≡ postings g.table word → (r : Bytes)
      → part f token word r ≡ part g token word r
  part_same token word same r =
      let docs = alike.documents in
      let lengths = lengths_same r in
      λ i. option_map (λ n. whole n *ᵈ idf_of (docs i) (len (same i)) *ᵈ norm_of (lengths i)
      *ᵈ penalty_of token word) (get (same i) r)

  parts_same : (token : Text) (words : List Text)
      → ((word : Text) → is_listed word words ≡ true → postings f.table word ≡ postings g.table word)
      → (r : Bytes) → map (λ word. part f token word r) words ≡ map (λ word. part g token word r) words
  parts_same token [] same r = refl
  parts_same token (word ∷ words) same r =
      let first = part_same token word (same word (itself word words)) r in
      let rest = parts_same token words (λ w h. same w (right_true _ _ h)) r in
      λ i. first i ∷ rest i

  module _ (looked : List (Text × List Text)) (are : AreLookedUp f tokens looked) where
    is_asked : (k : ℕ) (d : Text × List Text) → k < length looked
        → is_listed (get_or looked k d).0 tokens ≡ true
    is_asked k d lt = ap (is_listed (get_or looked k d).0) (sym are.0) ∙ first_listed looked k d lt

    its_postings : (k : ℕ) (d : Text × List Text) → k < length looked → (word : Text)
        → CanStandFor f.expand (get_or looked k d).0 word → postings f.table word ≡ postings g.table word
    its_postings k d lt word stands = alike.same_postings (get_or looked k d).0 word (is_asked k d lt) stands

    token_same : (r : Bytes) (k : ℕ) (d : Text × List Text) → k < length looked
        → token_score f (get_or looked k d).0 (get_or looked k d).1 r
        ≡ token_score g (get_or looked k d).0 (get_or looked k d).1 r
    token_same r k d lt =
        let t = get_or looked k d in
        ap sum_of (parts_same t.0 t.1 (λ word h. its_postings k d lt word
        (can_stand f.expand f.table t.0 t.1 (are.1 k d lt) word h)) r)

    found_same : (r : Bytes) (k : ℕ) (d : Text × List Text) → k < length looked
        → is_found f r (get_or looked k d) ≡ is_found g r (get_or looked k d)
    found_same r k d lt = ap is_some (token_same r k d lt)

    itself_same : (r : Bytes) (k : ℕ) (d : Text × List Text) → k < length looked
        → is_found_itself f r (get_or looked k d) ≡ is_found_itself g r (get_or looked k d)
    itself_same r k d lt =
        let t = get_or looked k d in
        let found = found_same r k d lt in
        let same = its_postings k d lt t.0 (stands_itself f.expand t.0) in
        λ i. found i && is_some (get (same i) r)

    counted_same : (n found exact : ℕ) (score : Option Float)
        → counted_if f n found exact score ≡ counted_if g n found exact score
    counted_same n found exact None = refl
    counted_same n found exact (Some score) =
        let boost = alike.boost in
        let join = alike.join in
        λ i. cond (boost i == 0 || not (is_enough (join i) n found)) None
        (Some (shared n exact score *ᵈ whole (boost i)))

    field_same : (r : Bytes) → field_score f looked r ≡ field_score g looked r
    field_same r =
        let found = count_same (is_found f r) (is_found g r) looked (found_same r) in
        let exact = count_same (is_found_itself f r) (is_found_itself g r) looked (itself_same r) in
        let score = ap sum_of (map_same (λ t. token_score f t.0 t.1 r) (λ t. token_score g t.0 t.1 r) looked
        (token_same r)) in
        (λ i. counted_if f (length looked) (found i) (exact i) (score i))
        ∙ counted_same (length looked) (count_by (is_found g r) looked) (count_by (is_found_itself g r) looked)
        (tokens_score g looked r)

    looked_same : AreLookedUp g tokens looked
    looked_same = (
      are.0,
      λ k d lt. let t = get_or looked k d in
          subst (λ e. AreWordsOf g.table e t.0 t.1) alike.expand
          (words_same f.expand f.table g.table t.0 t.1 (its_postings k d lt) (are.1 k d lt)),
    )

-- what was looked up in fields, looked up in others
pub record LookedUp (tokens : List Text) (looked : List (Field × List (Text × List Text))) (others : List Field)
    : Type 0 where
  pub all : List (Field × List (Text × List Text))
  pub are : AreAllLookedUp others tokens all
  pub scores : (r : Bytes) → map (λ f. field_score f.0 f.1 r) looked ≡ map (λ f. field_score f.0 f.1 r) all

all_first : {A : Type 0} (P : A → Type 0) (x : A) (xs : List A) → P x
    → ((k : ℕ) (d : A) → k < length xs → P (get_or xs k d))
    → (k : ℕ) (d : A) → k < length (x ∷ xs) → P (get_or (x ∷ xs) k d)
all_first P x xs first rest zero d lt = first
all_first P x xs first rest (suc k) d lt = rest k d (omega (arith, lt))

look_up : (tokens : List Text) (looked : List (Field × List (Text × List Text))) (others : List Field)
    → ((k : ℕ) (d : Field × List (Text × List Text)) → k < length looked
    → AreLookedUp (get_or looked k d).0 tokens (get_or looked k d).1)
    → AllZip (AreAlike tokens) (map (λ f. f.0) looked) others → LookedUp tokens looked others
look_up tokens [] [] are alike = record { all = []; are = (refl, λ k d lt. absurd (omega (arith, lt))); scores = λ r. refl }
look_up tokens [] (g ∷ gs) are alike = absurd alike
look_up tokens (f ∷ fs) [] are alike = absurd alike
look_up tokens (f ∷ fs) (g ∷ gs) are alike =
    let rest = look_up tokens fs gs (λ k d lt. are (suc k) d (omega (arith, lt))) alike.1 in
    let its = are zero f (omega arith) in
    record {
      all = (g, f.1) ∷ rest.all;
      are = (
        ap (λ xs. g ∷ xs) rest.are.0,
        all_first (λ f. AreLookedUp f.0 tokens f.1) (g, f.1) rest.all (looked_same tokens f.0 g alike.0 f.1 its)
            rest.are.1,
      );
      scores = λ r. let first = field_same tokens f.0 g alike.0 f.1 its r in
          let later = rest.scores r in λ i. first i ∷ later i;
    }

pub all_looked_up : (tokens : List Text) (fields others : List Field) (looked : List (Field × List (Text × List Text)))
    → AllZip (AreAlike tokens) fields others → AreAllLookedUp fields tokens looked → LookedUp tokens looked others
all_looked_up tokens fields others looked alike are =
    look_up tokens looked others are.1 (subst (λ fs. AllZip (AreAlike tokens) fs others) (sym are.0) alike)

pub same_total : (tokens : List Text) (looked : List (Field × List (Text × List Text))) (others : List Field)
    → (new : LookedUp tokens looked others) → (r : Bytes) → total_score looked r ≡ total_score new.all r
same_total tokens looked others new r = ap sum_of (new.scores r)
