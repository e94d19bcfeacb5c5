-- Two ways to make a call that agree on every single one agree on every sequence of them.
use mathlib.Core.Path.{◌≡◌, refl, ap, ◌∙◌}
use mathlib.Core.List.{List, [], ◌∷◌, map}
use Rattle.saves.specs.Events.{Event, Next, Run, run}

module _ {A B S T : Type 0} (step : Event → S → Next A S) (other : Event → T → Next B T) (f : A → B) (view : S → T) (Inv : S → Type 0)
    (one : (e : Event) (s : S) → Inv s → (other e (view s) ≡ record { answer = f (step e s).answer; then = view (step e s).then }) × Inv (step e s).then) where
  -- what a call keeps is kept, and the other way answers and leaves the same, seen its way
  pub follows : (es : List Event) (s : S) → Inv s
      → (run other es (view s) ≡ record { answers = map f (run step es s).answers; end = view (run step es s).end }) × Inv (run step es s).end
  unfolding run
  follows [] s i = (refl, i)
  follows (e ∷ es) s i =
      let x = one e s i in
      let rest = follows es (step e s).then x.1 in (
        ap (λ (y : Next B T). record { answers = y.answer ∷ (run other es y.then).answers; end = (run other es y.then).end }) x.0
            ∙ ap (λ (z : Run B T). record { answers = f (step e s).answer ∷ z.answers; end = z.end }) rest.0,
        rest.1,
      )
