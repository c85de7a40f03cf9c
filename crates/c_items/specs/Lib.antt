pub mod ItemsFace
