-- Sums over the things that views name.
use Rattle.std.specs.Prelude.{ℕ, zero, suc, ◌+◌, ◌-◌, ◌++◌, ◌≡◌, List, [], ◌∷◌, cond, ◌==◌}
use Rattle.core_base.specs.declared.ops.Op.TheVariants.{Load}
use Rattle.core_words.specs.declared.owners.Owner.{Owner}
use Rattle.core_words.specs.declared.owners.Owner.TheVariants.{Exclusive}
use Rattle.core_words.specs.declared.owners.Ownership.{Ownership}
use Rattle.core_words.specs.declared.views.View.{View}
use Rattle.core_words.specs.declared.views.WordStep.{WordStep}
use Rattle.core_words.specs.declared.views.Counting.{Counting}
use Rattle.core_words.specs.declared.views.Naming.{Naming}
use Rattle.core_words.specs.declared.views.Naming.TheVariants.{Nobody, Thread, From}
use Rattle.core_words.specs.declared.views.Drawn.{Drawn}
use Rattle.core_words.specs.Indices.{permits_in}

-- whether the number of a thread is among these: 1, or 0
abbrev pub has_number : ℕ → Naming → ℕ
has_number thread Nobody = 0
has_number thread (Thread number) = cond (number == thread) 1 0
has_number thread (From number) = cond (number - thread == 0) 1 0

-- with no permit out, no number and no shares
abbrev pub view : List WordStep → List Ownership → List Drawn → ℕ → View
view steps owns drawn saw = record {
  steps = steps;
  owns = owns;
  drawn = drawn;
  saw = saw;
  out = [];
  naming = Nobody;
  shares = [];
}

-- a view with these steps, owners and draws, and the numbers and shares of another view
abbrev pub going_on : View → List WordStep → List Ownership → List Drawn → ℕ → View
going_on v steps owns drawn saw = record {
  steps = steps;
  owns = owns;
  drawn = drawn;
  saw = saw;
  out = [];
  naming = v.naming;
  shares = v.shares;
}

-- with these mutexes' permits out
abbrev pub with_out : List ℕ → View → View
with_out out v = record {
  steps = v.steps;
  owns = v.owns;
  drawn = v.drawn;
  saw = v.saw;
  out = out;
  naming = v.naming;
  shares = v.shares;
}

-- all that it has done, owns, drew and saw, but the permit that is out
abbrev pub shown : View → View
shown = with_out []

-- the view of a thread that has done nothing yet, and owns nothing
abbrev pub blank : View
blank = view [] [] [] 0

-- the view of a lot's first seat, which has the numbers of all threads and nothing else
abbrev pub namer : View
namer = record {
  steps = [];
  owns = [];
  drawn = [];
  saw = 0;
  out = [];
  naming = From 0;
  shares = [];
}

-- the weights of all items, added up
abbrev pub total : {A : Type 0} → (A → ℕ) → List A → ℕ
total weight [] = 0
total weight (x ∷ xs) = weight x + total weight xs

-- the weights of the numbers below n, added up
abbrev pub total_below : (ℕ → ℕ) → ℕ → ℕ
total_below weight zero = 0
total_below weight (suc n) = total_below weight n + weight n

-- an ownership of the word at an index
abbrev pub owning : ℕ → Owner → Ownership
owning at owner = record { at = at; owner = owner; count = 0 }

-- the ownership of the mutex at an index, of a thread that says this of its count word
abbrev pub owning_with : ℕ → ℕ → Ownership
owning_with at count = record { at = at; owner = Exclusive; count = count }

-- how much of the word at an index is owned, by a weight of owners
abbrev pub owned : ℕ → (Owner → ℕ) → List Ownership → ℕ
owned at weight owns = total (λ (x : Ownership). cond (x.at == at) (weight x.owner) 0) owns

-- the weight of the owners of a word in all views together
abbrev pub named : ℕ → (Owner → ℕ) → List View → ℕ
named at weight views = total (λ (v : View). owned at weight v.owns) views

-- the count word, as the owners of the mutex at an index tell it
abbrev pub counted : ℕ → List Ownership → ℕ
counted at owns = total (λ (x : Ownership). cond (x.at == at) x.count 0) owns

-- the count of a mutex as this view says it, where it has the number of this thread, and else 0
abbrev pub said_as : ℕ → ℕ → View → ℕ
said_as thread at v = cond (has_number thread v.naming == 0) 0 (counted at v.owns)

-- how many shares of the count at an index name this thread
abbrev pub shared_as : ℕ → ℕ → List Counting → ℕ
shared_as thread at shares =
    total (λ (x : Counting). cond (x.at == at) (cond (x.thread == thread) 1 0) 0) shares

-- what is said of count words in all
abbrev pub counts_in : List Ownership → ℕ
counts_in owns = total (λ (x : Ownership). x.count) owns

-- one of the steps was a load at an index that saw this value
abbrev pub HasSeen : ℕ → ℕ → List WordStep → Type 0
HasSeen at seen steps =
    (before more : List WordStep)
    × (steps ≡ before ++ (record { at = at; op = Load; seen = seen }) ∷ more)

-- how many steps at an index a view lists
abbrev pub steps_at : ℕ → View → ℕ
steps_at at v = total (λ (step : WordStep). cond (step.at == at) 1 0) v.steps

-- how often the permit of the mutex at an index is out with a view
abbrev pub outs : ℕ → View → ℕ
outs at v = total (λ (k : ℕ). cond (k == at) 1 0) v.out

-- the drawn words of a view, by a weight of numbers
abbrev pub drew : (ℕ → ℕ) → View → ℕ
drew weight v = total (λ (word : Drawn). weight word.number) v.drawn

-- the permits with which a view drew the word of this number
abbrev pub drew_permits : ℕ → View → ℕ
drew_permits number v =
    total (λ (word : Drawn). cond (word.number == number) (permits_in word.kind) 0) v.drawn

-- the permits with which it was drawn
abbrev pub granted : ℕ → List View → ℕ
granted number views = total (drew_permits number) views
