-- A name that is refused is a fault, unless memory ran out.
use Rattle.std.proofs.Common.{◌≡◌, ◌≢◌, Ok, Err, Result, refl}
use Rattle.zone_proto.specs.declared.error.ProtoError.{ProtoError}
use Rattle.zone_proto.specs.declared.error.ProtoError.TheVariants.{BadText, Memory, EmptyLabel, LabelTooLong, NameTooLong, Hash}
use Rattle.zone_proto.specs.Names.{Name}
use Rattle.zone_scanner.specs.declared.place.Place.{Place}
use Rattle.zone_tokens.specs.Names.{Refuses}
use Rattle.record_fields.specs.declared.fault.Reason.TheVariants as reason
use Rattle.record_fields.specs.declared.fault.ReadError.{ReadError}
use Rattle.record_fields.specs.declared.fault.ReadError.TheVariants as errors
use Rattle.record_fields.specs.Readings.{Fails, fault}
use Rattle.record_fields.specs.Fields.{named_at}

pub name_given : (p : Place) (read : Result Name ProtoError) (n : Name) → read ≡ Ok n → named_at p read ≡ Ok n
name_given p read n h = rw h refl

other : (p : Place) (read : Result Name ProtoError) (e : ProtoError) (answered : ReadError) → read ≡ Err e → answered ≡ errors.Fault (fault p (reason.Name e)) → Fails answered (named_at p read)
other p read e answered h t = rw (h, t) refl

pub name_fails : (p : Place) (read : Result Name ProtoError) (e : ProtoError) (answered : ReadError)
    → Refuses e read → (e ≡ Memory → answered ≡ errors.Memory) → (e ≢ Memory → answered ≡ errors.Fault (fault p (reason.Name e)))
    → Fails answered (named_at p read)
name_fails p read Memory answered h m f = rw (m refl) tt
name_fails p read BadText answered h m f = other p read BadText answered h (f (λ x. cc))
name_fails p read EmptyLabel answered h m f = other p read EmptyLabel answered h (f (λ x. cc))
name_fails p read LabelTooLong answered h m f = other p read LabelTooLong answered h (f (λ x. cc))
name_fails p read NameTooLong answered h m f = other p read NameTooLong answered h (f (λ x. cc))
name_fails p read Hash answered h m f = other p read Hash answered h (f (λ x. cc))
