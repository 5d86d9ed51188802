-- The words that are kept of values.
use Rattle.std.proofs.Common.{◌≡◌, ◌⊎◌, inl, inr, ◌≤◌, ◌<◌, ◌+◌, ◌++◌, ◌∷◌, ℕ, zero, suc, Bool, true, false, cond, ◌||◌, List, [], length, map}
use Rattle.std.proofs.Common.{take, drop, get_or, filter, Option, None, Some, Bor, slice_get, refl, sym, ap, subst, ◌∙◌}
use Rattle.std.proofs.Common.{append_assoc, option_map, unwrap_or, IfSome, Vec, String, arith}
use Rattle.std.proofs.Math.Seq.{drop-append_seam, drop-cons, take-append_seam}
use Rattle.std.proofs.lemmas.Grind.{flat_map-append}
use Rattle.std.proofs.lemmas.List.{length-append, length-map, length-take, map-append, take_more, take-append-drop}
use Rattle.std.proofs.lemmas.List.{take_all}
use Rattle.std.proofs.lemmas.Option.{get_or_from_slice_get, slice_get_within}
use Rattle.std.specs.List.{flat_map, list_any, zip}
use Rattle.std.specs.declared.alloc.Global.{Global}
use Rattle.elasticlunr_text.specs.Text.{Text, Bytes, texts_of, word_texts}
use Rattle.elasticlunr.specs.Fields.{borrowed}
use Rattle.elasticlunr.specs.GivenTokens.{value_texts}
use Rattle.elasticlunr.specs.declared.values.FieldValue.{FieldValue}
use Rattle.elasticlunr_job.specs.Given.{AreGiven, IsSourceOf}

-- what a test of the images keeps are the images of what is kept
pub map-filter : {X Y : Type 0} (f : X → Y) (p : Y → Bool) (q : X → Bool) → ((x : X) → q x ≡ p (f x)) → (xs : List X)
    → map f (filter q xs) ≡ filter p (map f xs)
map-filter f p q same [] = refl
map-filter f p q same (x ∷ xs) = by (q x) ∙ ap (λ b. cond b (f x ∷ map f (filter q xs)) (map f (filter q xs))) (same x)
    ∙ ap (λ ys. cond (p (f x)) (f x ∷ ys) ys) (map-filter f p q same xs) where
      by : (b : Bool) → map f (cond b (x ∷ filter q xs) (filter q xs))
          ≡ cond b (f x ∷ map f (filter q xs)) (map f (filter q xs))
      by true = refl
      by false = refl

pub any-borrowed : (p : Bytes → Bool) (names : List (Bor Bytes)) → list_any (λ name. p name.now) names
    ≡ list_any p (borrowed names)
any-borrowed p [] = refl
any-borrowed p (name ∷ names) = ap (λ b. p name.now || b) (any-borrowed p names)

-- the words of one pair more
pub zip_next : {A B K V Y : Type 0} (key : A → K) (value : B → V) (f : K × V → Y) (so_far : List Y) (firsts firsts_left : List A)
    (seconds seconds_left : List B) (a : A) (b : B) (y : Y) (whole : List Y) → firsts ≡ a ∷ firsts_left → seconds ≡ b ∷ seconds_left
    → y ≡ f (key a, value b)
    → so_far ++ map f (zip (map key firsts) (map value seconds)) ≡ whole
    → (so_far ++ y ∷ []) ++ map f (zip (map key firsts_left) (map value seconds_left)) ≡ whole
zip_next key value f so_far firsts firsts_left seconds seconds_left a b y whole first second is held =
    append_assoc so_far (y ∷ []) (map f (zip (map key firsts_left) (map value seconds_left)))
    ∙ ap (λ z. so_far ++ z ∷ map f (zip (map key firsts_left) (map value seconds_left))) is
    ∙ subst (λ vs. so_far ++ map f (zip (map key (a ∷ firsts_left)) (map value vs)) ≡ whole) second
    (subst (λ ks. so_far ++ map f (zip (map key ks) (map value seconds)) ≡ whole) first held)

-- and none where either list has ended
pub zip_none : {A B K V : Type 0} (key : A → K) (value : B → V) (firsts : List A) (seconds : List B)
    → (length firsts ≡ 0) ⊎ (length seconds ≡ 0) → zip (map key firsts) (map value seconds) ≡ []
zip_none key value [] seconds ended = refl
zip_none key value (a ∷ firsts) [] ended = refl
zip_none key value (a ∷ firsts) (b ∷ seconds) ended = elim ended [ inl e ↦ cc | inr e ↦ cc ]

abbrev Strings : Type 0
Strings = Vec (String Global) Global

abbrev Words : Strings → List Text
Words list = texts_of list.items

past_end : {X : Type 0} (xs : List X) (i : ℕ) → slice_get xs i ≡ None → length xs ≤ i
past_end [] zero e = omega arith
past_end [] (suc i) e = omega arith
past_end (x ∷ xs) zero e = cc
past_end (x ∷ xs) (suc i) e = let more = past_end xs i e in omega arith

-- the words before a list, its own, and those after it
parts : (kept : List Strings) (i : ℕ) (list : Strings) → slice_get kept i ≡ Some list → flat_map Words kept
    ≡ flat_map Words (take i kept) ++ (Words list ++ flat_map Words (drop (suc i) kept))
parts kept i list there =
    let within = slice_get_within kept i list there in
    let same = get_or_from_slice_get kept i list list there in
    let left : drop i kept ≡ list ∷ drop (suc i) kept = drop-cons kept i list within
    ∙ ap (λ it. it ∷ drop (suc i) kept) same in
    ap (flat_map Words) (sym (take-append-drop i kept))
    ∙ flat_map-append Words (take i kept) (drop i kept)
    ∙ ap (λ lists. flat_map Words (take i kept) ++ flat_map Words lists) left

abbrev many : Strings → ℕ
many list = length list.items

module _ (words : List (Bor Bytes)) (kept : List Strings) (all : word_texts words ≡ flat_map Words kept) (i start : ℕ)
    (after : start ≡ length (flat_map Words (take i kept))) where
  -- the words of a list are there
  pub enough : (there : Option Strings) → slice_get kept i ≡ there
      → IfSome (option_map many there) (λ n. start + n ≤ length words)
  enough None is = tt
  enough (Some list) is =
      let long : length words ≡ length (word_texts words) = sym (length-map words _) in
      let whole = ap length (all ∙ parts kept i list is)
      ∙ length-append (flat_map Words (take i kept)) (Words list ++ flat_map Words (drop (suc i) kept))
      ∙ ap (λ n. length (flat_map Words (take i kept)) + n)
      (length-append (Words list) (flat_map Words (drop (suc i) kept))) in
      let own : length (Words list) ≡ many list = length-map list.items _ in
      omega arith

  -- they are these
  pub its_own : (there : Option Strings) → slice_get kept i ≡ there
      → option_map (λ n. take n (drop start (word_texts words))) (option_map many there) ≡ option_map Words there
  its_own None is = refl
  its_own (Some list) is =
      let before = flat_map Words (take i kept) in
      let more = flat_map Words (drop (suc i) kept) in
      let own : many list ≡ length (Words list) = sym (length-map list.items _) in
      ap (λ ws. Some (take (many list) (drop start ws))) (all ∙ parts kept i list is)
      ∙ ap (λ n. Some (take (many list) (drop n (before ++ (Words list ++ more))))) after
      ∙ ap (λ ws. Some (take (many list) ws)) (drop-append_seam before (Words list ++ more))
      ∙ ap (λ n. Some (take n (Words list ++ more))) own
      ∙ ap (λ ws. Some ws) (take-append_seam (Words list) more)

  -- the next ones begin after them
  pub next_start : (there : Option Strings) → slice_get kept i ≡ there
      → start + unwrap_or (option_map many there) 0 ≡ length (flat_map Words (take (i + 1) kept))
  next_start None is =
      let past = past_end kept i is in
      let here : length (flat_map Words (take i kept)) ≡ length (flat_map Words kept) =
      ap (λ lists. length (flat_map Words lists)) (take_all i kept past) in
      let then : length (flat_map Words (take (i + 1) kept)) ≡ length (flat_map Words kept) =
      ap (λ lists. length (flat_map Words lists)) (take_all (i + 1) kept (omega (arith, past))) in
      omega (arith, after, here, then)
  next_start (Some list) is =
      let within = slice_get_within kept i list is in
      let one : take (i + 1) kept ≡ take i kept ++ list ∷ [] = take_more kept i list within
      ∙ ap (λ it. take i kept ++ it ∷ []) (get_or_from_slice_get kept i list list is) in
      let long = ap (λ lists. length (flat_map Words lists)) one
      ∙ ap length (flat_map-append Words (take i kept) (list ∷ []))
      ∙ length-append (flat_map Words (take i kept)) (flat_map Words (list ∷ [])) in
      let last : length (flat_map Words (list ∷ [])) ≡ length (Words list) + 0 =
      length-append (Words list) [] in
      let own : length (Words list) ≡ many list = length-map list.items _ in
      omega (arith, after, long, last, own)

-- each item of a list and one more
each_push : {X : Type 0} (P : ℕ → X → Type 0) (xs : List X) (x : X) → ((k : ℕ) → IfSome (slice_get xs k) (P k))
    → P (length xs) x → (k : ℕ) → IfSome (slice_get (xs ++ x ∷ []) k) (P k)
each_push P [] x so_far here zero = here
each_push P [] x so_far here (suc k) = tt
each_push P (y ∷ ys) x so_far here zero = so_far zero
each_push P (y ∷ ys) x so_far here (suc k) = each_push (λ n. P (suc n)) ys x (λ n. so_far (suc n)) here k

-- one value more is given
pub given_more : (values : List (Bor Bytes)) (i : ℕ) (text : Bor Bytes) (lists : List (List Text))
    (given : List FieldValue) (value : FieldValue) → i < length values
    → AreGiven (borrowed (take i values)) lists given → value.text.now ≡ (get_or values i text).now
    → IsSourceOf (slice_get lists i) value.tokens
    → AreGiven (borrowed (take (i + 1) values)) lists (given ++ value ∷ [])
given_more values i text lists given value within so_far same source =
    let texts : borrowed (take (i + 1) values) ≡ borrowed (take i values) ++ (get_or values i text).now ∷ [] =
    ap borrowed (take_more values i text within) ∙ map-append _ (take i values) (get_or values i text ∷ []) in
    let long : length given ≡ i =
    let one : length given ≡ length (value_texts given) = sym (length-map given _) in
    let two : length (value_texts given) ≡ length (borrowed (take i values)) = ap length so_far.texts_are in
    let three : length (borrowed (take i values)) ≡ length (take i values) = length-map (take i values) _ in
    let four = length-take i values in
    omega (arith, one, two, three, four, within) in
    record {
      texts_are = map-append _ given (value ∷ []) ∙ ap (λ ts. ts ++ value.text.now ∷ []) so_far.texts_are
          ∙ ap (λ t. borrowed (take i values) ++ t ∷ []) same ∙ sym texts;
      sources = each_push (λ k it. IsSourceOf (slice_get lists k) it.tokens) given value so_far.sources
          (subst (λ k. IsSourceOf (slice_get lists k) value.tokens) (sym long) source);
    }
