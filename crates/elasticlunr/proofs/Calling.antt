-- What calls of an index leave is one.
use Rattle.std.proofs.Common.{◌≡◌, ◌⊎◌, ℕ, suc, List, [], ◌∷◌, Bool, true, false, map, filter_map, Option, None, Some}
use Rattle.std.proofs.Common.{String, Global, bytes_eq, string_bytes, inl, inr, true≢false, refl, sym, ap, subst, ◌∙◌}
use Rattle.std.specs.Prelude.{IsSomeAnd, IfSome}
use Rattle.std.specs.List.{slice_get, AllZip}
use Rattle.std.specs.Str.{chars}
use Rattle.std.proofs.lemmas.Slice.Eq.{bytes_eq-Decides}
use Rattle.serde_json.specs.Data.{Data}
use Rattle.elasticlunr_text.specs.Stages.{names_of, IsRun}
use Rattle.elasticlunr_text.specs.Stems.{Stem}
use Rattle.elasticlunr_text.specs.Text.{Text, Bytes, bytes_of, texts_of}
use Rattle.elasticlunr_text.specs.Trimmed.{is_word_char, trimmed}
use Rattle.elasticlunr_lang.specs.Classes.{unless_listed}
use Rattle.elasticlunr_lang.specs.Known.{language_leaves}
use Rattle.elasticlunr_lang.specs.Languages.{StemOf}
use Rattle.elasticlunr_lang.specs.StopWords.{english_stop_words}
use Rattle.elasticlunr_lang.specs.declared.any.AnyLanguage.{AnyLanguage}
use Rattle.elasticlunr_lang.specs.declared.any.AnyLanguage.TheVariants.{English, Arabic, Danish, Dutch, Finnish, French}
use Rattle.elasticlunr_lang.specs.declared.any.AnyLanguage.TheVariants.{German, Italian, Korean, Norwegian, Portuguese}
use Rattle.elasticlunr_lang.specs.declared.any.AnyLanguage.TheVariants.{Romanian, Russian, Spanish, Swedish, Turkish}
use Rattle.elasticlunr.specs.Calls.{Call, adding, removing, compacting, HasOneReading, HasOneDocument, followed_by}
use Rattle.elasticlunr.specs.Calls.{IsCommandOf, AreCommandsOf}
use Rattle.elasticlunr.specs.Choices.{Choices, IsMadeAt, Reads, plan_with}
use Rattle.elasticlunr.specs.Documents.{IsGiven, IsDocument}
use Rattle.elasticlunr_commands.specs.History.{Given, Document, Command, add, remove, compact, Commands, none}
use Rattle.elasticlunr.specs.Index as index_specs
use Rattle.elasticlunr.specs.Index.{SameSettings, plan_of}
use Rattle.elasticlunr_print.specs.Printed.{IsValue, IsTextAfter}
use Rattle.elasticlunr.specs.Reading.{LanguageReads, ReadsOnly}
use Rattle.elasticlunr_commands.specs.Standing.{Plan}
pub use Rattle.elasticlunr_commands.proofs.OneZip.{one_zip}
use Rattle.elasticlunr.specs.Tokenizers.{MayAnswer}
use Rattle.elasticlunr.specs.declared.index.Index.{Index}
use Rattle.elasticlunr.specs.declared.settings.Tokenizer.{Tokenizer}

-- strings of equal bytes have equal characters
same_texts : (ss ts : List (String Global)) → bytes_of ss ≡ bytes_of ts → texts_of ss ≡ texts_of ts
same_texts [] [] e = refl
same_texts [] (t ∷ ts) e = cc (e)
same_texts (s ∷ ss) [] e = cc (e)
same_texts (s ∷ ss) (t ∷ ts) e =
    let here : string_bytes s ≡ string_bytes t = cc (e) in
    let rest : bytes_of ss ≡ bytes_of ts = cc (e) in
    let more = same_texts ss ts rest in
    λ i. chars (here i) ∷ more i

-- a tokenizer has one answer to a value
pub one_made : {X : Type 0} {F : X → Type 0} {g : _} (tokenizer : Tokenizer X F g) (value : Bytes)
    (tokens others : List Text) → MayAnswer tokenizer value tokens → MayAnswer tokenizer value others → tokens
    ≡ others
one_made tokenizer value tokens others one other =
    sym one.are ∙ same_texts one.made.items other.made.items
    (tokenizer.one_answer one.alloc other.alloc one.given other.given one.made other.made (one.of_value
    ∙ sym other.of_value) one.answered other.answered) ∙ other.are

module _ {L P T : Type 0} (tokens_of : L → Text → List Text) (answers : T → Bytes → List Text → Type 0)
    (runs : P → List Text → List Text → Type 0) (c : Choices L P T)
    (one_tokenized : (tokenizer : T) (value : Bytes) (tokens others : List Text) → answers tokenizer value tokens
    → answers tokenizer value others → tokens ≡ others)
    (one_run : (made tokens others : List Text) → runs c.pipeline made tokens → runs c.pipeline made others → tokens
    ≡ others) where
  one_made_at : (place : Option (Option T)) (value : Bytes) (made others : List Text)
      → IsMadeAt tokens_of answers c.language place value made → IsMadeAt tokens_of answers c.language place value
      others → made ≡ others
  one_made_at None value made others one other = absurd one
  one_made_at (Some None) value made others one other = one ∙ sym other
  one_made_at (Some (Some tokenizer)) value made others one other = one_tokenized tokenizer value made others one other

  -- where tokenizers and the pipeline have one answer, one list of tokens is read
  pub one_reading : HasOneReading (Reads tokens_of answers runs c)
  one_reading i value tokens others one other =
      let made : one.made ≡ other.made = one_made_at (slice_get c.tokenizers i) value one.made other.made one.tokenized
      other.tokenized in
      one_run other.made tokens others (subst (λ m. runs c.pipeline m tokens) made one.left) other.left

-- each word has one stem
abbrev pub OneStem : Type 0
OneStem = (w : Text) → (v : Text) × Stem w v × ((u : Text) → Stem w u → u ≡ v)

one_some : OneStem → (word : Text) (a b : Option Text) → IsSomeAnd a (Stem word) → IsSomeAnd b (Stem word) → a ≡ b
one_some stems word None b is other = absurd is
one_some stems word (Some x) None is other = absurd other
one_some stems word (Some x) (Some y) is other = let stem = stems word in ap Some (stem.2 x is ∙ sym (stem.2 y other))

one_stem_of : OneStem → (text a b : Option Text) → StemOf text a → StemOf text b → a ≡ b
one_stem_of stems None a b is other = is ∙ sym other
one_stem_of stems (Some word) a b is other = one_some stems word a b is other

-- what a built-in language leaves of a token is one
one_left : OneStem → (language : AnyLanguage) (token : Text) (a b : Option Text) → language_leaves language token a
    → language_leaves language token b → a ≡ b
one_left stems English token a b is other = one_stem_of stems
    (unless_listed english_stop_words (trimmed is_word_char token)) a b is other
one_left stems Arabic token a b is other = is ∙ sym other
one_left stems Danish token a b is other = is ∙ sym other
one_left stems Dutch token a b is other = is ∙ sym other
one_left stems Finnish token a b is other = is ∙ sym other
one_left stems French token a b is other = is ∙ sym other
one_left stems German token a b is other = is ∙ sym other
one_left stems Italian token a b is other = is ∙ sym other
one_left stems Korean token a b is other = is ∙ sym other
one_left stems Norwegian token a b is other = is ∙ sym other
one_left stems Portuguese token a b is other = is ∙ sym other
one_left stems Romanian token a b is other = is ∙ sym other
one_left stems Russian token a b is other = is ∙ sym other
one_left stems Spanish token a b is other = is ∙ sym other
one_left stems Swedish token a b is other = is ∙ sym other
one_left stems Turkish token a b is other = is ∙ sym other

pub one_language_reading : (tokens_of : Text → List Text) → OneStem → (language : AnyLanguage)
    → HasOneReading (LanguageReads tokens_of (language_leaves language))
one_language_reading tokens_of stems language i value tokens others one other =
    let lefts : one.lefts ≡ other.lefts = one_zip (language_leaves language) (one_left stems language)
    (tokens_of (chars value)) one.lefts other.lefts one.each other.each in
    one.are ∙ ap (filter_map (λ left. left)) lefts ∙ sym other.are

-- the name stands there, or does not
holds_or_not : (o : Option Bytes) (name : Bytes) → (o ≡ Some name) ⊎ ¬ (o ≡ Some name)
holds_or_not None name = inr (λ e. cc (e))
holds_or_not (Some other) name = by_test (bytes_eq other name) refl where
  by_test : (b : Bool) → bytes_eq other name ≡ b → (Some other ≡ Some name) ⊎ ¬ (Some other ≡ Some name)
  by_test true is = inl (ap Some ((bytes_eq-Decides other name).0 is))
  by_test false is = inr (λ e. (let same : other
      ≡ name = cc (e) in true≢false (sym ((bytes_eq-Decides other name).1 same) ∙ is)))

both_some : {X : Type 0} (o p : Option X) (P : X → Type 0) → ((x y : X) → P x → P y → x ≡ y) → IsSomeAnd o P
    → IsSomeAnd p P → o ≡ p
both_some None p P one a b = absurd a
both_some (Some x) None P one a b = absurd b
both_some (Some x) (Some y) P one a b = ap Some (one x y a b)

some_more : {X : Type 0} (o : Option X) (P Q : X → Type 0) → ((x : X) → P x → Q x) → IsSomeAnd o P → IsSomeAnd o Q
some_more None P Q f h = h
some_more (Some x) P Q f h = f x h

if_more : {X : Type 0} (o : Option X) (P Q : X → Type 0) → ((x : X) → P x → Q x) → IfSome o P → IfSome o Q
if_more None P Q f h = h
if_more (Some x) P Q f h = f x h

one_list : (P : ℕ → Given → Type 0) → ((i : ℕ) (a b : Given) → P i a → P i b → a.value ≡ b.value → a ≡ b)
    → (gs hs : List Given) → map (λ given. given.value) gs ≡ map (λ given. given.value) hs
    → ((i : ℕ) → IfSome (slice_get gs i) (P i)) → ((i : ℕ) → IfSome (slice_get hs i) (P i)) → gs ≡ hs
one_list P one [] [] values a b = refl
one_list P one [] (h ∷ hs) values a b = cc (values)
one_list P one (g ∷ gs) [] values a b = cc (values)
one_list P one (g ∷ gs) (h ∷ hs) values a b =
    let value : g.value ≡ h.value = cc (values) in
    let more : map (λ given. given.value) gs ≡ map (λ given. given.value) hs = cc (values) in
    let head : g ≡ h = one 0 g h (a 0) (b 0) value in
    let tail : gs ≡ hs = one_list (λ i. P (suc i)) (λ i. one (suc i)) gs hs more (λ i. a (suc i)) (λ i. b (suc i)) in
    λ k. head k ∷ tail k

module _ (fields : List Bytes) (reference_field : Bytes) (reads : ℕ → Bytes → List Text → Type 0) where
  one_given : HasOneReading reads → (i : ℕ) (a b : Given) → IsGiven fields reference_field reads i a
      → IsGiven fields reference_field reads i b → a.value ≡ b.value → a ≡ b
  one_given one i a b is other value =
      let tokens : a.tokens ≡ b.tokens = elim (holds_or_not (slice_get fields i) reference_field) [
        | inl holds ↦ is.of_reference holds ∙ sym (other.of_reference holds)
        | inr other_field ↦ both_some a.tokens b.tokens (reads i b.value) (one i b.value)
            (subst (λ v. IsSomeAnd a.tokens (reads i v)) value (is.of_value other_field)) (other.of_value other_field)
      ] in
      λ k. record { value = value k; tokens = tokens k }

  -- what reads one list of tokens makes one document
  pub one_document : HasOneReading reads → HasOneDocument (IsDocument fields reference_field reads)
  one_document one reference values d e a b =
      let same : d.reference ≡ e.reference = a.its_reference ∙ sym b.its_reference in
      let given : d.given ≡ e.given = one_list (IsGiven fields reference_field reads) (one_given one) d.given e.given
      (a.its_values ∙ sym b.its_values) a.each b.each in
      λ k. record { reference = same k; given = given k }

  -- what reads more makes the document, too
  pub document_more : (other : ℕ → Bytes → List Text → Type 0) → ReadsOnly reads other
      → (reference : Bytes) (values : List Bytes) (document : Document)
      → IsDocument fields reference_field reads reference values document
      → IsDocument fields reference_field other reference values document
  document_more other more reference values document is = record {
    its_reference = is.its_reference;
    its_values = is.its_values;
    each = λ i. if_more (slice_get document.given i) (IsGiven fields reference_field reads i)
        (IsGiven fields reference_field other i)
        (λ given h. record {
          of_reference = h.of_reference;
          of_value = λ no. some_more given.tokens
              (reads i given.value) (other i given.value) (more i given.value) (h.of_value no);
        }) (is.each i);
  }

zip_more : {A B : Type 0} (P Q : A → B → Type 0) (xs : List A) (ys : List B) → ((x : A) (y : B) → P x y → Q x y)
    → AllZip P xs ys → AllZip Q xs ys
zip_more P Q [] [] f h = tt
zip_more P Q [] (y ∷ ys) f h = absurd h
zip_more P Q (x ∷ xs) [] f h = absurd h
zip_more P Q (x ∷ xs) (y ∷ ys) f h = (f x y h.0, zip_more P Q xs ys f h.1)

module _ (makes other : Bytes → List Bytes → Document → Type 0)
    (more : (reference : Bytes) (values : List Bytes) (document : Document) → makes reference values document
    → other reference values document) where
  command_more : (call : Call) (command : Command) → IsCommandOf makes call command → IsCommandOf other call command
  command_more (adding reference values) (add d) is = more reference values d is
  command_more (adding reference values) (remove r) is = is
  command_more (adding reference values) compact is = is
  command_more (removing reference) (add d) is = is
  command_more (removing reference) (remove r) is = is
  command_more (removing reference) compact is = is
  command_more compacting (add d) is = is
  command_more compacting (remove r) is = is
  command_more compacting compact is = is

  -- what makes more makes the commands, too
  pub commands_more : (calls : List Call) (commands : Commands) → AreCommandsOf makes calls commands
      → AreCommandsOf other calls commands
  commands_more calls commands are = record {
    list = are.list;
    each = zip_more (IsCommandOf makes) (IsCommandOf other)
        calls are.list command_more are.each;
    whole = are.whole;
  }

module _ {L P X Y : Type 0} {O : X → Type 0} {F : Y → Type 0} {p : _} {g : _} where
  -- an index of the same settings makes the same documents
  pub document_alike : (tokens_of : L → Text → List Text) (leaves : (v : X) × O v → Text → Option Text)
      (index other : Index L P X Y O F p g) → SameSettings index other
      → (reference : Bytes) (values : List Bytes) (document : Document) → index_specs.IsDocument tokens_of leaves other
      reference values document → index_specs.IsDocument tokens_of leaves index reference values document
  document_alike tokens_of leaves index other same reference values document made =
      subst (λ c. IsDocument c.fields c.reference_field
      (Reads tokens_of MayAnswer (IsRun (λ step. leaves (step.vtable, step.value))) c) reference values document)
      same made

  -- and is printed alike
  pub plan_alike : (name_of : L → Bytes) (name_text : (v : X) × O v → Bytes) (index other : Index L P X Y O F p g)
      → SameSettings index other → plan_of name_of name_text other ≡ plan_of name_of name_text index
  plan_alike name_of name_text index other same =
      ap (plan_with name_of (names_of (λ step. name_text (step.vtable, step.value)))) same

module _ (makes : Bytes → List Bytes → Document → Type 0) (one : HasOneDocument makes) where
  one_command : (call : Call) (a b : Command) → IsCommandOf makes call a → IsCommandOf makes call b → a ≡ b
  one_command (adding reference values) (add d) (add e) is other = ap add (one reference values d e is other)
  one_command (adding reference values) (add d) (remove r) is other = absurd other
  one_command (adding reference values) (add d) compact is other = absurd other
  one_command (adding reference values) (remove r) b is other = absurd is
  one_command (adding reference values) compact b is other = absurd is
  one_command (removing reference) (add d) b is other = absurd is
  one_command (removing reference) (remove r) (add d) is other = absurd other
  one_command (removing reference) (remove r) (remove q) is other = ap remove (sym is ∙ other)
  one_command (removing reference) (remove r) compact is other = absurd other
  one_command (removing reference) compact b is other = absurd is
  one_command compacting (add d) b is other = absurd is
  one_command compacting (remove r) b is other = absurd is
  one_command compacting compact (add d) is other = absurd other
  one_command compacting compact (remove r) is other = absurd other
  one_command compacting compact compact is other = refl

  -- equal calls are equal commands
  pub one_commands : (calls : List Call) (left right : Commands) → AreCommandsOf makes calls left
      → AreCommandsOf makes calls right → left ≡ right
  one_commands calls left right a b =
      a.whole ∙ ap (followed_by none) (one_zip (IsCommandOf makes) one_command calls a.list b.list a.each b.each)
      ∙ sym b.whole

-- equal commands have equal texts
pub one_text : ((p : Plan) (c : Commands) (v w : Data) → IsValue p c v → IsValue p c w → v ≡ w)
    → (text_of : Data → List ℕ) (plan : Plan) (left right : Commands) (text other : List ℕ)
    → left ≡ right → IsTextAfter text_of plan left text → IsTextAfter text_of plan right other → text ≡ other
one_text values text_of plan left right text other same a b =
    a.2 ∙ ap text_of (values plan right a.0 b.0 (subst (λ c. IsValue plan c a.0) same a.1) b.1) ∙ sym b.2
