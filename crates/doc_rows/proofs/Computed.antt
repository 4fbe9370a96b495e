-- The worked rows compute.
use Rattle.std.proofs.Common.{refl}
use Rattle.doc.specs.Scalar.{text_long, converted}
use Rattle.doc.specs.Mapping.{property_of, properties_from, fits_within, fields_within, top_of, top_keys_of, mapping_of}
use Rattle.doc.specs.Document.{place_of, members_from, fields_of}
use Rattle.doc_rows.specs.Rows.{Row_mappings, Row_documents, Row_depths}

pub row_mappings : Row_mappings
unfolding text_long converted property_of properties_from fits_within fields_within top_of top_keys_of mapping_of place_of members_from fields_of
row_mappings = record { two = refl; order = refl; said = refl; said_alone = refl; other = refl; nothing = refl; no_object = refl; key = refl; own_first = refl; within_first = refl; point = refl; too_long = refl; twenty_one = refl; twenty = refl; object_is_no_field = refl; no_levels = refl; deep_first = refl; dynamic_first = refl }

pub row_documents : Row_documents
unfolding text_long converted property_of properties_from fits_within fields_within top_of top_keys_of mapping_of place_of members_from fields_of
row_documents = record { two = refl; dotted = refl; scalar = refl; object_at_field = refl; null_at_object = refl; both = refl; arrays = refl; empty = refl; empty_array = refl; in_order = refl; in_order_too = refl; array_in_array = refl; twice = refl; twice_wrong = refl; unmapped_object = refl; unmapped_arrays = refl; unmapped_within = refl; strict_within = refl; strict_first = refl; strict_array = refl; path_of_points = refl; point_within = refl; walk = refl; first_fault = refl; no_name = refl; no_name_strict = refl }

pub row_depths : Row_depths
unfolding text_long converted property_of properties_from fits_within fields_within top_of top_keys_of mapping_of place_of members_from fields_of
row_depths = record { twenty = refl; one_more = refl; in_array = refl; wrong_kind_too = refl; arrays_do_not_count = refl; before_unmapped = refl; a_place_before = refl; inner = refl }
