-- The text that went out of a page that was finished.
use Rattle.std.proofs.Common.{ℕ, Bool, true, false, List, [], ◌++◌, Option, ◌≡◌, inl, inr, subst}
use Rattle.std.proofs.Common.{refl}
use Rattle.std.proofs.lemmas.List.{append-nil}
use Rattle.lot_text.specs.Sent.{Held, Puts, PutsWhere, Sends, SendsFront}
use Rattle.lot_text.proofs.SentLemmas.{puts_then}
use Rattle.lotsim.specs.Lines.{Writes}

sent : (lost : Bool) (a c : Option (List ℕ)) (left text : List ℕ) → lost ≡ false → left ≡ []
    → PutsWhere false lost a c [] left text → Sends a c text []
sent true a c left text e none p = cc
sent false a c left text e none p = subst (Sends a c text) none p

fronted : (lost : Bool) (a c : Option (List ℕ)) (left text : List ℕ) → lost ≡ true
    → PutsWhere false lost a c [] left text → SendsFront a c text
fronted true a c left text e p = p
fronted false a c left text e p = cc

module _ (a b c : Option (List ℕ)) (first page last : Held) (text : List ℕ)
    (blank : first ≡ record { bytes = []; lost = false }) (puts : Puts a b first page text)
    (finish : Puts b c page last []) where
  whole : PutsWhere false last.lost a c [] last.bytes text
  whole = subst (λ (t : List ℕ). PutsWhere false last.lost a c [] last.bytes t) (append-nil text)
      (subst (λ (p : Held). Puts a c p last (text ++ [])) blank (puts_then a b c first page last text [] puts
      finish))

  pub all_sent : (ending : ℕ) → last.lost ≡ false → (last.lost ≡ false → last.bytes ≡ [])
      → Writes a c text ending ending
  all_sent ending e none = inl (refl, sent last.lost a c last.bytes text e (none e) whole)

  pub front_sent : (ending : ℕ) → last.lost ≡ true → Writes a c text ending 4
  front_sent ending e = inr (refl, fronted last.lost a c last.bytes text e whole)
