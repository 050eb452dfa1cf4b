-- What a line says by its first word, and what it is read as by that word's head, are the same.
use Rattle.std.proofs.Common.{◌≡◌, ℕ, List, [], ◌∷◌, Some, None, codes, Option, sym, refl, ap, ◌∙◌, subst, ⊎_elim}
use Rattle.std.specs.Str.{bytes_eq}
use Rattle.std.proofs.lemmas.Slice.Eq.{bytes_eq-Decides}
use Rattle.std.proofs.lemmas.Bool.{cases_Bool}
use Rattle.text.specs.Readers.{Line}
use Rattle.text.proofs.Tellings.{some_same}
use Rattle.calls.specs.declared.call.Call.{Call}
use Rattle.calls.specs.declared.call.Call.TheVariants as call
use Rattle.calls.specs.declared.draw_line.Kind.TheVariants as kind
use Rattle.calls.specs.declared.entry.Entry.{Entry}
use Rattle.calls.specs.declared.entry.Entry.TheVariants as entry
use Rattle.calls.specs.declared.head.Head.{Head}
use Rattle.calls.specs.declared.head.Head.TheVariants as head
use Rattle.calls.specs.declared.head.Verb.TheVariants as verb
use Rattle.calls.specs.Calls.{Draws, Begins, Says, SaysEntry, named}
use Rattle.calls.specs.Heads.{heads, head_of, SaysHead, SaysBy}

-- what holds where a word is that of a row, for each row
abbrev Rows : {A : Type 0} → (Option A → Type 0) → List ℕ → List (List ℕ × A) → Type 0
Rows F word [] = Unit {0}
Rows F word (row ∷ table) = (word ≡ row.0 → F (Some row.1)) × Rows F word table

-- holds of what stands beside the word, if it does where the word stands in no row
by-rows : {A : Type 0} (F : Option A → Type 0) (word : List ℕ) (table : List (List ℕ × A)) → Rows F word table → F None → F (named table word)
by-rows F word [] rows none = none
by-rows F word (row ∷ table) rows none =
    ⊎_elim (λ yes. rw yes (rows.0 ((bytes_eq-Decides word row.0).0 yes))) (λ no. rw no (by-rows F word table rows.1 none)) (cases_Bool (bytes_eq word row.0))

module _ {D : Type 0} (draws : Draws D) (word : List ℕ) (words : Line) where
  -- an entry that is made of a part, where the words say the part
  meant : (f e : Entry D) → e ≡ f → SaysEntry draws word words f [] → SaysEntry draws word words e []
  meant f e is says = subst (λ e. SaysEntry draws word words e []) (sym is) says

  -- the same of a call
  meant-call : (c d : Call D) (e : Entry D) → d ≡ c → e ≡ entry.Call d → Says draws word words c [] → SaysEntry draws word words e []
  meant-call c d e is entry-is says = meant (entry.Call c) e (entry-is ∙ ap entry.Call is) says

  -- what is said by the head of a word is said by the word
  pub says-entry : (e : Entry D) → SaysBy draws (head_of word) words e → SaysEntry draws word words e []
  says-entry =
      by-rows (λ h. (e : Entry D) → SaysBy draws h words e → SaysEntry draws word words e []) word heads (
        λ same e (k, by, is). meant (entry.Kind k) e is (same, by),
        (
          λ same e (strip, by, is). meant (entry.Strip strip) e is (same, by),
          (
            λ same e (places, by, is). meant (entry.Places places) e is (same, by),
            (
              λ same e (c, (size, by, is), made). meant-call (call.Reset size.0 size.1) c e is made (same, by),
              (
                λ same e (c, (draw, by, is), made). meant-call (call.Draw draw) c e is made (subst (λ w. draws w words draw []) (sym same) by),
                (
                  λ same e (c, (draw, by, is), made). meant-call (call.Draw draw) c e is made (subst (λ w. draws w words draw []) (sym same) by),
                  (
                    λ same e (c, (opening, by, is), made). meant-call (call.Open opening.0 opening.1) c e is made (same, by),
                    (
                      λ same e (c, (u, by, is), made). meant-call call.Close c e is made (same, ap (λ p. p.1) (some_same by)),
                      (
                        λ same e (c, (room, by, is), made). meant-call (call.Walk room) c e is made (same, by),
                        (
                          λ same e (c, (u, by, is), made). meant-call call.Report c e is made (same, ap (λ p. p.1) (some_same by)),
                          tt,
                        ),
                      ),
                    ),
                  ),
                ),
              ),
            ),
          ),
        ),
      ) (λ e says. absurd says)

  -- the same of a word whose head is known
  pub by-head : (h : Head) → head_of word ≡ Some h → (e : Entry D) → SaysHead draws h words e [] → SaysEntry draws word words e []
  by-head h known e says = says-entry e (subst (λ h. SaysBy draws h words e) (sym known) says)

  -- the other way round, where other words say no draw
  module _ (begins : Begins draws) where
    said : (h : Option Head) (name : List ℕ) → word ≡ name → head_of name ≡ h → (e : Entry D) → SaysBy draws h words e → SaysBy draws (head_of word) words e
    said h name same is e says = subst (λ h. SaysBy draws h words e) (sym (ap head_of same ∙ is)) says

    pub entry-says : (e : Entry D) → SaysEntry draws word words e [] → SaysBy draws (head_of word) words e
    entry-says (entry.Kind k) (same, by) = said (Some head.Kind) (codes "kind") same refl _ (k, by, refl)
    entry-says (entry.Strip strip) (same, by) = said (Some head.Strip) (codes "strip") same refl _ (strip, by, refl)
    entry-says (entry.Places places) (same, by) = said (Some head.Places) (codes "places") same refl _ (places, by, refl)
    entry-says (entry.Call (call.Reset w h)) (same, by) = said (Some (head.Call verb.Reset)) (codes "reset") same refl _ (call.Reset w h, ((w, h), by, refl), refl)
    entry-says (entry.Call (call.Draw draw)) by =
        ⊎_elim (λ same. said (Some (head.Call (verb.Draw kind.Fill))) (codes "fill") same refl _ (call.Draw draw, (draw, subst (λ w. draws w words draw []) same by, refl), refl)) (λ same. said (Some (head.Call (verb.Draw kind.Run))) (codes "run") same refl _ (call.Draw draw, (draw, subst (λ w. draws w words draw []) same by, refl), refl)) (begins word words draw [] by)
    entry-says (entry.Call (call.Open props filter)) (same, by) = said (Some (head.Call verb.Open)) (codes "open") same refl _ (call.Open props filter, ((props, filter), by, refl), refl)
    entry-says (entry.Call call.Close) (same, by) = said (Some (head.Call verb.Close)) (codes "close") same refl _ (call.Close, (tt, ap (λ r. Some (tt, r)) by, refl), refl)
    entry-says (entry.Call (call.Walk room)) (same, by) = said (Some (head.Call verb.Walk)) (codes "walk") same refl _ (call.Walk room, (room, by, refl), refl)
    entry-says (entry.Call (call.Tile surface tile room)) by = absurd by
    entry-says (entry.Call (call.Hit tile)) by = absurd by
    entry-says (entry.Call call.Report) (same, by) = said (Some (head.Call verb.Report)) (codes "report") same refl _ (call.Report, (tt, ap (λ r. Some (tt, r)) by, refl), refl)

    pub head-says : (h : Head) → head_of word ≡ Some h → (e : Entry D) → SaysEntry draws word words e [] → SaysHead draws h words e []
    head-says h known e says = rw known at (entry-says e says)
