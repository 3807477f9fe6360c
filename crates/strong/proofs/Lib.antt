mod StrongLaws
