-- What was written where a write fails, or serving stops: a front of what waited
use Rattle.std.proofs.Common.{◌≡◌, inl, inr, ℕ, List, [], ◌++◌, ◌-◌, length, take, drop, refl, sym, ap, subst, ◌∙◌, append_assoc, arith}
use Rattle.std.specs.Prelude.{OnErr, Option, Result, Ok, Err}
use Rattle.std.specs.Io.KnownBytes.{Appends, Keeps}
use Rattle.std.proofs.KnownBytes.{Appends-kept, Appends-trans}
use Rattle.std.proofs.lemmas.List.{length-drop, take_all, take-append-drop}
use Rattle.zone_server.specs.Serving.{Moves}
use Rattle.zone_server.specs.Stopping.{Stops, MovesFront}
use Rattle.zone_server.proofs.ServedFrames.{moved_on, nothing_moved}

-- ---- a write after another

-- more of what is left was written
pub more_moved : (a b : List ℕ) (n : ℕ) (u v w : Option (List ℕ)) → Moves a u v b → Appends v w (take n b) → Moves a u w (take (length b - n) (drop n b))
more_moved a b n u v w m more =
    let behind : take (length b - n) (drop n b) ≡ drop n b = take_all (length b - n) (drop n b) (omega (arith, length-drop n b)) in
    subst (Moves a u w) (sym behind) (record {
      written = m.written ++ take n b;
      parts = m.parts ∙ ap (λ xs. m.written ++ xs) (sym (take-append-drop n b)) ∙ sym (append_assoc m.written (take n b) (drop n b));
      appended = Appends-trans u v w m.written (take n b) m.appended more;
    })

-- a write that wrote nothing
pub moved_kept : (a b : List ℕ) (u v w : Option (List ℕ)) → Moves a u v b → Keeps v w → Moves a u w b
moved_kept a b u v w m kept = record { written = m.written; parts = m.parts; appended = Appends-kept u v w m.written m.appended kept }

-- ---- fronts

pub moved_front : (a b : List ℕ) (u v : Option (List ℕ)) → Moves a u v b → MovesFront a u v
moved_front a b u v m = record { left = b; moved = m }

pub none_front : (a : List ℕ) (u : Option (List ℕ)) → MovesFront a u u
none_front a u = moved_front a a u u (nothing_moved a u)

-- some of what waited was written before
pub front_then : (a b : List ℕ) (u v w : Option (List ℕ)) → Moves a u v b → MovesFront b v w → MovesFront a u w
front_then a b u v w m f = record {
  left = f.left;
  moved = record {
    written = m.written ++ f.moved.written;
    parts = m.parts ∙ ap (λ xs. m.written ++ xs) f.moved.parts ∙ sym (append_assoc m.written f.moved.written f.left);
    appended = Appends-trans u v w m.written f.moved.written m.appended f.moved.appended;
  };
}

-- and then octets came behind what waited
pub front_after : (a b t : List ℕ) (u v w : Option (List ℕ)) → Moves a u v b → MovesFront (b ++ t) v w → MovesFront (a ++ t) u w
front_after a b t u v w m f = record { left = f.left; moved = moved_on a b t f.left u v w m f.moved }

-- ---- where it stops

pub on_err : {A E : Type 0} (r : Result A E) (P : Type 0) → P → OnErr r P
on_err (Ok x) P p = tt
on_err (Err e) P p = p

-- what holds where a call fails follows from what that call says
pub on_err_from : {A E : Type 0} (r : Result A E) (P Q : Type 0) → (P → Q) → OnErr r P → OnErr r Q
on_err_from (Ok x) P Q f p = tt
on_err_from (Err e) P Q f p = f p

pub none_stops : (Is : List ℕ → Type 0) (a : List ℕ) (u : Option (List ℕ)) → Stops Is a u u
none_stops Is a u = record { text = []; is = inl refl; front = none_front (a ++ []) u }

-- a text that couldn't be put there, or written
pub text_stops : (Is : List ℕ → Type 0) (text a : List ℕ) (u v : Option (List ℕ)) → Is text → MovesFront (a ++ text) u v → Stops Is a u v
text_stops Is text a u v is f = record { text = text; is = inr is; front = f }
