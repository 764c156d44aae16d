-- The names of lines.
use Rattle.std.specs.Prelude.{◌≡◌, ◌≢◌, ℕ, cond, List, Ok, Err, codes, Result}
use Rattle.std.specs.Str.{bytes_eq}
use Rattle.fault.specs.declared.kinds.Fault.{Fault}
use Rattle.fault.specs.declared.kinds.Cause.TheVariants as cause
use Rattle.fault.specs.declared.kinds.Layer.TheVariants as layer
use Rattle.fault.specs.Numbers.{told}
use Rattle.fault.specs.declared.kinds.Property.{Property}
use Rattle.fault.specs.declared.kinds.Property.TheVariants as property
use Rattle.property.specs.Values.{name_text}
use Rattle.message.specs.declared.kinds.Kind.{Kind}
use Rattle.message.specs.declared.kinds.Kind.TheVariants as kind
use Rattle.message.specs.declared.kinds.Method.{Method}
use Rattle.message.specs.declared.kinds.Method.TheVariants.{Request, Cancel, Reply}

-- is it the name of this property, and if so, is that what is told, else the other
abbrev pub named : List ℕ → Property → Kind → Kind
named name p other = cond (bytes_eq name (name_text p)) (kind.Listed p) other

-- a property, or a name that is not listed
abbrev pub later_kind : List ℕ → Kind
later_kind name =
    named name property.Summary (named name property.Dtstart (named name property.Dtend (named name property.Rdate (named name property.Status (named name property.Basis kind.Other)))))

abbrev pub property_kind : List ℕ → Kind
property_kind name =
    named name property.Uid (named name property.Dtstamp (named name property.Sequence (named name property.Organizer (named name property.Attendee (later_kind name)))))

-- a name of the frame, a property, or a name that is not listed
abbrev pub kind_of : List ℕ → Kind
kind_of name =
    cond (bytes_eq name (codes "BEGIN")) kind.Begin
    (cond (bytes_eq name (codes "END")) kind.End
    (cond (bytes_eq name (codes "VERSION")) kind.Version
    (cond (bytes_eq name (codes "PRODID")) kind.Product
    (cond (bytes_eq name (codes "METHOD")) kind.Method (property_kind name)))))

abbrev pub method_text : Method → List ℕ
method_text Request = codes ":REQUEST"
method_text Cancel = codes ":CANCEL"
method_text Reply = codes ":REPLY"

-- the name of a method, as the text of METHOD has it behind the colon
abbrev pub method_name : Method → List ℕ
method_name Request = codes "REQUEST"
method_name Cancel = codes "CANCEL"
method_name Reply = codes "REPLY"

-- what reading the text of a METHOD line answers: the method that it names, or that it names none
abbrev pub ReadsMethod : List ℕ → Result Method Fault → Type 0
ReadsMethod text (Ok m) = text ≡ method_text m
ReadsMethod text (Err f) = ((m : Method) → text ≢ method_text m) × (f ≡ told layer.Framing cause.Method)
