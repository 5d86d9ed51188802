-- Which hits come.
use Rattle.std.proofs.Common.{◌≡◌, ◌≢◌, ◌⊎◌, inl, inr, ℕ, List, Option, Some, None, refl, sym, ap, subst, ◌∙◌, string_bytes}
use Rattle.std.proofs.lemmas.List.{take-map}
use Rattle.std.specs.List.{filter}
use Rattle.std.specs.List.Sorted.{IsStrictlySortedBy}
use Rattle.std.specs.Str.{chars}
use Rattle.elasticlunr_text.specs.Text.{Text, Bytes, is_listed, text_cmp}
use Rattle.elasticlunr_lang.specs.Known.{language_leaves}
use Rattle.elasticlunr_lang.specs.Words.{words}
use Rattle.elasticlunr_lang.specs.declared.any.AnyLanguage.{AnyLanguage}
use Rattle.elasticlunr_stem_stage.specs.Stemmed.{leaves_with}
use Rattle.elasticlunr_store.specs.Options.{Options}
use Rattle.elasticlunr.specs.Reading.{LanguageReads}
use Rattle.elasticlunr_ranking.specs.Order.{told_hits}
use Rattle.elasticlunr_ranking.specs.declared.hits.Hit.{Hit}
use Rattle.elasticlunr_search.specs.Ranking.{AreBestAsChosen, AreRankedAsChosen}
use Rattle.elasticlunr_search.specs.Standing.{AreFoundWithinTriesAsChosen, IsChosen, fields_of, kept_contents}
use Rattle.elasticlunr_search.specs.Tries.{FindsAcross}
use Rattle.elasticlunr_search.specs.declared.searcher.Searcher.{Searcher}
use Rattle.elasticlunr_search.specs.declared.words.Join.TheVariants as join
use Rattle.elasticlunr_hits.specs.Asked.{AreOptionsOf, at_most, boosted, searched}
use Rattle.elasticlunr_hits.specs.Hits.{AreHitsOf, KeepsFound, KeepsNeeded, Told}
use Rattle.elasticlunr_hits.specs.declared.asked.Asked.{Asked}
use Rattle.elasticlunr_hits.specs.declared.asked.Needed.{Needed}
use Rattle.elasticlunr_hits.specs.declared.asked.Needed.TheVariants.{One, EachInOneField, Each}
use Rattle.elasticlunr_hits.proofs.Read.{across_read, tokens_read}
use Rattle.elasticlunr_hits.proofs.WordTexts.{AreTexts}

module _ {P X : Type 0} {O : X → Type 0} {p : _} (leaves : (v : X) × O v → Text → Option Text)
    (s : Searcher AnyLanguage P X O p) (asked : Asked) where
  -- what stays in the index that it searches
  abbrev Stays : (reads : ℕ → Bytes → List Text → Type 0) → Needed → (ranking kept : List Told) → Type 0
  Stays reads needed ranking kept =
      KeepsNeeded reads (fields_of s) s.printed.tries.items (kept_contents s) asked needed ranking kept

  keeps_all : (reads : ℕ → Bytes → List Text → Type 0) (needed : Needed) → needed ≢ Each → (ranking : List Told)
      → Stays reads needed ranking ranking
  keeps_all reads One apart ranking = refl
  keeps_all reads EachInOneField apart ranking = refl
  keeps_all reads Each apart ranking = absurd (apart refl)

  -- it has its own language and its own pipeline
  itself : IsChosen s s.language s.pipeline
  itself = record { its_language = refl; its_pipeline = refl }

  module _ (texts : AreTexts (words (chars asked.query.now))) (options : Options)
      (of_asked : AreOptionsOf asked (fields_of s) options) where
    -- the first hits of a ranking are those that come, where no more is needed
    pub first_come : asked.needed ≢ Each → (limit : ℕ) → asked.limit ≡ Some limit → (hits : List Told)
        → AreBestAsChosen (λ _. words) language_leaves leaves s asked.query.now options limit hits
        → AreHitsOf leaves s asked hits
    first_come apart limit is hits best stems language speaks =
        let by = best s.language s.pipeline itself in
        let R = leaves_with stems language in record {
          options = options;
          of_asked = of_asked;
          tokens = by.tokens;
          of_query = λ i. tokens_read leaves s.pipeline R speaks.stages asked.query.now texts i by.tokens
              (by.of_query i);
          ranking = by.are.0;
          ranked = by.are.1;
          kept = by.are.0;
          needed = keeps_all (LanguageReads words R) asked.needed apart by.are.0;
          are = by.are.2 ∙ sym (ap (λ l. at_most l by.are.0) is);
        }

    -- and without a limit all of them
    pub all_come : asked.needed ≢ Each → asked.limit ≡ None → (hits : List Told)
        → AreRankedAsChosen (λ _. words) language_leaves leaves s asked.query.now options hits
        → AreHitsOf leaves s asked hits
    all_come apart is hits ranked stems language speaks =
        let by = ranked s.language s.pipeline itself in
        let R = leaves_with stems language in record {
          options = options;
          of_asked = of_asked;
          tokens = by.tokens;
          of_query = λ i. tokens_read leaves s.pipeline R speaks.stages asked.query.now texts i by.tokens
              (by.of_query i);
          ranking = hits;
          ranked = by.are;
          kept = hits;
          needed = keeps_all (LanguageReads words R) asked.needed apart hits;
          are = sym (ap (λ l. at_most l hits) is);
        }

    -- the first hits that are found with each word, where each is needed
    pub found_come : asked.needed ≡ Each → (ranking : List Told)
        → AreRankedAsChosen (λ _. words) language_leaves leaves s asked.query.now options ranking
        → (names found : List Bytes) → names ≡ boosted asked.boosts.items (searched asked (fields_of s))
        → AreFoundWithinTriesAsChosen (λ _. words) language_leaves leaves s join.All names asked.query.now found
        → (kept : List Told)
        → (IsStrictlySortedBy text_cmp found → kept ≡ filter (λ hit. is_listed hit.0 found) ranking)
        → (hits : List Told) → hits ≡ at_most asked.limit kept → AreHitsOf leaves s asked hits
    found_come each ranking ranked names found named has kept stay hits are stems language speaks =
        let R = leaves_with stems language in
        let reads = LanguageReads words R in
        let found_by : FindsAcross reads (fields_of s) s.printed.tries.items names asked.query.now found =
        across_read leaves s.pipeline R speaks.stages asked.query.now texts (fields_of s) s.printed.tries.items names
        found (has s.language s.pipeline itself) in
        let by = ranked s.language s.pipeline itself in
        let keeps : KeepsFound reads (fields_of s) s.printed.tries.items (kept_contents s) asked ranking kept = (
          found,
          subst (λ ns. FindsAcross reads (fields_of s) s.printed.tries.items ns asked.query.now found) named found_by,
          stay found_by.are.sorted,
        ) in record {
          options = options;
          of_asked = of_asked;
          tokens = by.tokens;
          of_query = λ i. tokens_read leaves s.pipeline R speaks.stages asked.query.now texts i by.tokens
              (by.of_query i);
          ranking = ranking;
          ranked = by.are;
          kept = kept;
          needed = subst (λ needed. Stays reads needed ranking kept) (sym each) keeps;
          are = are;
        }

-- the first of hits that are told
pub told_first : (limit : Option ℕ) (hits : List Hit) → told_hits (at_most limit hits) ≡ at_most limit (told_hits hits)
told_first None hits = refl
told_first (Some n) hits = sym (take-map (λ hit. (string_bytes hit.reference, hit.score)) n hits)

-- where one word or each in one field is enough, no other need stands
pub no_other_need : (needed : Needed) → (needed ≡ One) ⊎ (needed ≡ EachInOneField) → needed ≢ Each
no_other_need needed (inl one) each = cc
no_other_need needed (inr in_one) each = cc
